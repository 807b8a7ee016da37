-- What is known of an entry whose text is still to be compared.
use Rattle.std.specs.Prelude.{ℕ, ◌+◌, ◌*◌, ◌≤◌, ◌≡◌, length}
use Rattle.text.specs.Text.{chars}
use Rattle.layout.specs.Table.{Table, entry_at}
use Rattle.strings.specs.Texts.{text_of}
use Rattle.strings.specs.inner.Held.{Here}
use Rattle.lookup.specs.Kinds.{tells_at}
use Rattle.lookup.specs.declared.Kind.{Kind}
use Rattle.lookup.specs.declared.first.Candidate.{Candidate}

-- Some entry bears the n characters that the candidate shows, and the candidate's result is told of it.
pub record PickedEntry (kind : Kind) (t : Table) (n : ℕ) (c : Candidate) : Type 0 where
  pub bucket : ℕ
  pub entry : ℕ
  pub here : Here t bucket entry
  pub fits : c.text + 2 * n ≤ length t.bytes
  pub text : text_of t bucket entry ≡ chars t.bytes c.text n
  pub result : c.result ≡ tells_at kind t.bytes (entry_at t bucket entry)

use mathlib.Core.Path.{ap}
use native.Mathlib.Omega.{arith}
use Rattle.verdict.proofs.Gives.{given, refuses}
use Rattle.le.proofs.Numbers.{word_lt}
use Rattle.layout.specs.Header.{header_of}
use Rattle.layout.specs.declared.Header.{Header}
use Rattle.layout.specs.declared.Edition.TheVariants.{Bits64}
use Rattle.taplinen.specs.Questions.{workspace_left}
use Rattle.taplinen.proofs.Laws.{header_refused, header-told}
use Rattle.taplinen.proofs.header.taplinen_header.Goals as goal

pub new-requires : goal.new-requires
unfolding header_of
new-requires c = let h = (given c.accept.ensures.answer c.in-Ok.is).1.header in
    let low = word_lt c.args.file.now (λ i. omega (arith, c.type_inv.file i)) in
    (omega (arith, low 0, ap (λ (x : Header). x.version) h), omega (arith, low 12, ap (λ (x : Header). x.revision) h))

pub returns-in-Ok : goal.returns-in-Ok
unfolding workspace_left
returns-in-Ok c = let g = given c.accept.ensures.answer c.in-Ok.is in
    record { answer = header-told Bits64 _ _ g.0 g.1.header c.new.ensures; workspace = c.accept.ensures.workspace }

pub returns-in-Err : goal.returns-in-Err
unfolding workspace_left
returns-in-Err c = record { answer = header_refused Bits64 _ _ (refuses c.accept.ensures.answer c.in-Err.is) (c.into.ensures _); workspace = c.accept.ensures.workspace }

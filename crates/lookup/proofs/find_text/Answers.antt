use Rattle.search.proofs.Halves.{halved_lower}
use Rattle.search.proofs.Nearby.{lower_in}
use Rattle.strings.proofs.Accepted.{strings_parts}
use Rattle.lookup.specs.Lookup.{text_from}
use Rattle.lookup.proofs.find_text.Goals as goal

pub find_from-requires : goal.find_from-requires
unfolding text_from
find_from-requires c = let k = c.bucket-k.ensures in
    let w = halved_lower _ _ _ _ (strings_parts _ c.args.checked.now.checked).0 k.1 c.lower_bound-low.ensures in
    (c.hash_chars-h.ensures.0, lower_in _ _ _ _ _ k.0 w)

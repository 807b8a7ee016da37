use native.Mathlib.Omega.{arith}
use borrow.Author.Rules.{rules}
use Rattle.verdict.proofs.Gives.{gives_ok, gives_err, gives_exit, given, refuses, clean_of, refused_of}
use Rattle.layout.specs.Layout.{attributes_at, nodes_at}
use Rattle.layout.specs.declared.Edition.TheVariants.{Bits64}
use Rattle.layout.proofs.Accepted.{header_end, keys_end, region_end}
use Rattle.layout.proofs.Ways.{size_stop, attributes-scanned, nodes-scanned, header_stop, keys_stop, attributes_stop, nodes-left}
use Rattle.layout.proofs.front.scan_front.Goals as goal
use mathlib.Core.Path.{◌∙◌}

pub returns-then-b-gt-MOST_BYTES : goal.returns-then-b-gt-MOST_BYTES
returns-then-b-gt-MOST_BYTES c = gives_err (size_stop Bits64 _ (λ h. omega arith))

pub returns-in_err-header : goal.returns-in_err-header
returns-in_err-header c =
    gives_exit _ _ c.from_residual.ensures.1 (header_stop Bits64 _ (omega arith) (refused_of c.header.ensures c.in_err-header.was))

pub keys-requires : goal.keys-requires
keys-requires c = header_end _ (clean_of c.header.ensures c.in_ok-header.was)

pub returns-in_err-attributes : goal.returns-in_err-attributes
returns-in_err-attributes c = let h = clean_of c.header.ensures c.in_ok-header.was in
    gives_exit _ _ c.from_residual-in_err-attributes.ensures.1 (keys_stop Bits64 _ (omega arith) h (refuses c.keys.ensures c.in_err-attributes.was))

pub lay-requires : goal.lay-requires
unfolding attributes_at
lay-requires c = let k = given c.keys.ensures c.in_ok-attributes.was in
    (omega (arith, k.1, keys_end _ k.0), search rules)

pub returns-in_err-nodes : goal.returns-in_err-nodes
unfolding attributes_at
returns-in_err-nodes c = let h = clean_of c.header.ensures c.in_ok-header.was in
    let k = given c.keys.ensures c.in_ok-attributes.was in
    let a = attributes-scanned Bits64 _ k.1 c.lay.ensures in
    gives_exit _ _ c.from_residual-in_err-nodes.ensures.1 (attributes_stop Bits64 _ (omega arith) h k.0 (refuses a c.in_err-nodes.was))

pub lay-requires-2 : goal.lay-requires-2
unfolding attributes_at nodes_at
lay-requires-2 c = let k = given c.keys.ensures c.in_ok-attributes.was in
    let a = given (attributes-scanned Bits64 _ k.1 c.lay.ensures) c.in_ok-nodes.was in
    (omega (arith, a.1, region_end _ _ _ a.0), search rules)

pub returns-in_err-end : goal.returns-in_err-end
unfolding attributes_at
returns-in_err-end c = let h = clean_of c.header.ensures c.in_ok-header.was in
    let k = given c.keys.ensures c.in_ok-attributes.was in
    let a = given (attributes-scanned Bits64 _ k.1 c.lay.ensures) c.in_ok-nodes.was in
    let n = nodes-scanned Bits64 _ a.1 c.lay-2.ensures in
    gives_exit _ _ c.from_residual-in_err-end.ensures.1 (nodes-left Bits64 _ (omega arith) h k.0 a.0 ∙ refuses n c.in_err-end.was)

pub returns : goal.returns
unfolding attributes_at
returns c = let h = clean_of c.header.ensures c.in_ok-header.was in
    let k = given c.keys.ensures c.in_ok-attributes.was in
    let a = given (attributes-scanned Bits64 _ k.1 c.lay.ensures) c.in_ok-nodes.was in
    let n = given (nodes-scanned Bits64 _ a.1 c.lay-2.ensures) c.in_ok-end.was in
    gives_ok (nodes-left Bits64 _ (omega arith) h k.0 a.0 ∙ n.0) (record { attributes-at = k.1; nodes-at = a.1; end = n.1 })

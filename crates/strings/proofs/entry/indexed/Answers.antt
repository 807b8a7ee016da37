use native.Mathlib.Omega.{arith}
use Rattle.strings.proofs.Checks.{indexed-zero, indexed-high, indexed-segment, indexed-element}
use Rattle.strings.proofs.Places.{index_at, segment-at, element-at, list_is, listed-segment-at, listed-element-at}
use Rattle.strings.proofs.entry.indexed.Goals as goal

pub returns-then-i-eq0 : goal.returns-then-i-eq0
returns-then-i-eq0 c = indexed-zero _ _ _ _ (index_at _ _ _ _ _ c.entry_at-e.ensures.0 c.index-i.ensures) c.if-i-eq0.true

pub returns-then-u32_at-i : goal.returns-then-u32_at-i
returns-then-u32_at-i c = indexed-high _ _ _ _ (index_at _ _ _ _ _ c.entry_at-e.ensures.0 c.index-i.ensures) _
    (list_is _ _ _ _ c.args.table.now.held _ c.u32_at.ensures.0) c.if-u32_at-i.true

pub position_at-p-requires : goal.position_at-p-requires
position_at-p-requires c = let h = c.args.table.now.held in
    omega (arith, list_is _ _ _ _ h _ c.u32_at.ensures.0, c.if-u32_at-i.false)

pub returns-then-u16_at-segment : goal.returns-then-u16_at-segment
returns-then-u16_at-segment c = let q = c.entry_at-e.ensures.0 in
    indexed-segment _ _ _ _ (index_at _ _ _ _ _ q c.index-i.ensures) _ _
    (listed-segment-at _ _ _ _ c.position_at-p.ensures.0 c.u16_at.ensures.0) (segment-at _ _ _ _ _ q c.segment.ensures.0) c.if-u16_at-segment.true

pub returns : goal.returns
returns c = let h = c.args.table.now.held in
    let q = c.entry_at-e.ensures.0 in
    let l = c.position_at-p.ensures.0 in
    indexed-element _ _ _ _ (index_at _ _ _ _ _ q c.index-i.ensures) _ _
    (listed-segment-at _ _ _ _ l c.u16_at.ensures.0) (segment-at _ _ _ _ _ q c.segment.ensures.0) c.if-u16_at-segment.false _
    (list_is _ _ _ _ h _ c.u32_at.ensures.0) c.if-i-eq0.false c.if-u32_at-i.false _ _
    (listed-element-at _ _ _ _ l c.u16_at-2.ensures.0) (element-at _ _ _ _ _ q c.element.ensures.0)

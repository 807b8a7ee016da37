use Rattle.layout.specs.Header.{header_of}
use Rattle.layout.proofs.front.header_report.Goals as goal

pub returns : goal.returns
unfolding header_of
returns c = cc c.u32_at-2.ensures.0

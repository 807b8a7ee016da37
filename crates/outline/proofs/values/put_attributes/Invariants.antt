use Rattle.layout.specs.declared.Edition.TheVariants.{Bits64}
use Rattle.nodes.specs.Node.{attribute_count, attribute_at}
use Rattle.tree.specs.Chain.{ranged}
use Rattle.print.proofs.Puts.{Left}
use Rattle.outline.specs.Outline.{attribute_text}
use Rattle.outline.proofs.Written.{ranged_from}
use Rattle.outline.proofs.Parts.{Attributes}
use Rattle.outline.proofs.values.put_attributes.Given as goal

abbrev pub invariant-loop-i : goal.invariant-loop-i
invariant-loop-i l = Attributes Bits64 l.source.file.now l.x l.n l.q × Left l.initial.out l.at (ranged (λ k. attribute_text Bits64 l.source.file.now (attribute_at Bits64 l.source.file.now l.x k)) 0 (attribute_count l.source.file.now l.x)) l.e (ranged_from (λ k. attribute_text Bits64 l.source.file.now (attribute_at Bits64 l.source.file.now l.x k)) 0 l.n l.i) l.out

use mathlib.Core.Path.{◌∙◌, ap}
use mir.Facts.{to_z-of_z}
use Rattle.prelude.specs.Integers.{natural}
use Rattle.network.specs.Question.{value}
use Rattle.state.proofs.answer_of.Goals as goal

pub returns-in-PathValue : goal.returns-in-PathValue
returns-in-PathValue c = rw c.in-PathValue.is (ap value (c.to_unsigned.ensures ∙ ap natural (to_z-of_z c.ranges.cost)))

pub returns-in-FlowValue : goal.returns-in-FlowValue
returns-in-FlowValue c = rw c.in-FlowValue.is (ap value (c.to_unsigned-in-FlowValue.ensures ∙ ap natural (to_z-of_z c.ranges.cut)))

pub returns-in-AssignmentValue : goal.returns-in-AssignmentValue
returns-in-AssignmentValue c = rw c.in-AssignmentValue.is (ap value (c.to_unsigned-in-AssignmentValue.ensures ∙ ap natural (to_z-of_z c.ranges.cost)))

pub returns-in-PathNone : goal.returns-in-PathNone
returns-in-PathNone c = rw c.in-PathNone.is

pub returns-in-AssignmentNone : goal.returns-in-AssignmentNone
returns-in-AssignmentNone c = rw c.in-AssignmentNone.is

pub returns-in-AcyclicityValue : goal.returns-in-AcyclicityValue
returns-in-AcyclicityValue c = rw c.in-AcyclicityValue.is

pub returns-in-AcyclicityNone : goal.returns-in-AcyclicityNone
returns-in-AcyclicityNone c = rw c.in-AcyclicityNone.is

pub returns-in-Nothing : goal.returns-in-Nothing
returns-in-Nothing c = rw c.in-Nothing.is

-- What the code holds of a setting, of a question and of a row of rules, as the definitions of the network have them.
use Rattle.network.specs.Question.{Setting, shortest_path, maximum_flow, assignment, acyclicity, unasked}
use Rattle.network.specs.Question.{Question as Asked}
use Rattle.network.specs.Certificate.{Rules, path_rules, flow_rules, assignment_rules, no_path_rules, no_assignment_rules, acyclic_rules, cyclic_rules, no_rules}
use Rattle.checks.specs.declared.Opening.{Opening}
use Rattle.checks.specs.declared.HeldSetting.{HeldSetting}
use Rattle.checks.specs.declared.rows.Question.{Question}
use Rattle.checks.specs.declared.rows.Question.TheVariants.{Path, Flow, Assignment, Acyclicity, Unasked}
use Rattle.checks.specs.declared.rows.Row.{Row}
use Rattle.checks.specs.declared.rows.Row.TheVariants.{PathValue, PathNone, FlowValue, AssignmentValue, AssignmentNone, AcyclicityValue, AcyclicityNone, Nothing}

-- The setting that an opening is handed.
abbrev pub handed : Opening → Setting
handed o = record { question = o.question; n = o.n; s = o.s; t = o.t }

-- The setting that a session holds.
abbrev pub asked : HeldSetting → Setting
asked st = record { question = st.question; n = st.n; s = st.s; t = st.t }

-- The question that a value of the code names.
abbrev pub question_held : Question → Asked
question_held Path = shortest_path
question_held Flow = maximum_flow
question_held Assignment = assignment
question_held Acyclicity = acyclicity
question_held Unasked = unasked

-- The row of rules that a value of the code names.
abbrev pub rules_held : Row → Rules
rules_held PathValue = path_rules
rules_held FlowValue = flow_rules
rules_held AssignmentValue = assignment_rules
rules_held PathNone = no_path_rules
rules_held AssignmentNone = no_assignment_rules
rules_held AcyclicityValue = acyclic_rules
rules_held AcyclicityNone = cyclic_rules
rules_held Nothing = no_rules

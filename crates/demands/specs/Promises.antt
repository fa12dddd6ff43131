-- The second half of demand 3 (PANEL 12): what the helper writes is judged truly at every pair of points, self-loops change nothing of it, and so it is for the file of a minute; proofs/Promises.antt keeps it. With FewWrong (runs) and FewJudgedWrong (judging) demand 3 is whole.
use Rattle.std.specs.Prelude.{◌≡◌, List, ℕ, ◌≤◌, length, take}
use Rattle.prelude.specs.Lists.{AtMost}
use Rattle.network.specs.Network.{without_self_loops}
use Rattle.network.specs.Question.{asks, Answer, TrueAnswer}
use Rattle.network.specs.Promises.{PathOrFlow}
use Rattle.points.specs.Points.{IsPoint, misleading_points}
use Rattle.points.specs.declared.Point.{Point}
use Rattle.state.specs.Answers.{gives}
use Rattle.format.specs.Files.{setting_in, arcs_in, network_file}
use Rattle.acceptance.specs.Acceptance.{AcceptedFile}
use Rattle.runs.specs.Run.{Wrong}
use Rattle.judging.specs.Judging.{judged, judged_by_steps}
use Rattle.format.specs.Replies.{WriterSaid, wrote}
use Rattle.annotation_writing.specs.Requests.{size_for}
use Rattle.helper.specs.Helper.{annotated, Annotation, BufferAfter}
use Rattle.tide_windows.specs.Windows.{Window}
use Rattle.calendar_records.specs.MinuteNetwork.{open_alone, arcs_at}
use Rattle.calendar.specs.Schedule.{file_at, schedule_reply, buffer_after}

-- At every pair of points the file and the annotation come out as the true answer, by judging and by the steps of a session.
pub record JudgedTruly (net ann : List ℕ) : Type 0 where
  pub answer : Answer
  pub is_true : TrueAnswer (setting_in net) (arcs_in net) answer
  pub at_every_point : (r : Point) → IsPoint r → judged net ann r ≡ gives answer
  pub by_steps : (r : Point) → IsPoint r → judged_by_steps net ann r ≡ gives answer

-- The helper has served: the reply is the length, and below it stands an annotation that meets every rule and is judged truly.
pub record Helped (net after : List ℕ) (reply : WriterSaid) : Type 0 where
  pub reply_is : reply ≡ wrote (size_for net)
  pub annotation : Annotation net (take (size_for net) after)
  pub truly : JudgedTruly net (take (size_for net) after)

-- For every accepted network file and every buffer that check 20 lets pass: what the helper's contract says of its reply and of the buffer makes it serve.
abbrev pub HelperServes : Type 0
HelperServes =
    (net before after : List ℕ) (reply : WriterSaid)
    → AcceptedFile net → size_for net ≤ length before → reply ≡ annotated net (length before) → BufferAfter reply net before after
    → Helped net after reply

-- ---- basins (PANEL 3)

-- The file of the same network without its self-loops.
abbrev pub file_without : List ℕ → List ℕ
file_without net = network_file (setting_in net) (without_self_loops (arcs_in net))

-- The panel accepts the file without self-loops too, and at every pair of points the two files come out as the same, each with any annotation that meets every rule.
pub record JudgedAlike (net : List ℕ) : Type 0 where
  pub accepted : AcceptedFile (file_without net)
  pub alike : (ann other : List ℕ) → Annotation net ann → Annotation (file_without net) other
      → (r : Point) → IsPoint r → judged net ann r ≡ judged (file_without net) other r

-- Self-loops change nothing of what a file is judged as: so for every accepted network file of a route or a discharge.
abbrev pub SelfLoopsServed : Type 0
SelfLoopsServed = (net : List ℕ) → AcceptedFile net → PathOrFlow (asks (setting_in net)) → JudgedAlike net

-- ---- the file of a minute (PANEL 14)

-- At every pair of points a file of a minute and an annotation come out as the true answer of the network of that minute, which is that of the open arcs alone; by judging and by the steps of a session.
pub record ScheduledTruly (net : List ℕ) (ws : List Window) (t : ℕ) (file ann : List ℕ) : Type 0 where
  pub answer : Answer
  pub is_true : TrueAnswer (setting_in net) (arcs_at net ws t) answer
  pub of_open_arcs : TrueAnswer (setting_in net) (open_alone ws t (arcs_in net)) answer
  pub at_every_point : (r : Point) → IsPoint r → judged file ann r ≡ gives answer
  pub by_steps : (r : Point) → IsPoint r → judged_by_steps file ann r ≡ gives answer

-- Wherever the calendar wrote k bytes: the file that they are, with what the helper then writes for it in any buffer that check 20 lets pass, is judged truly.
abbrev pub ScheduleServes : Type 0
ScheduleServes =
    (net : List ℕ) (ws : List Window) (t k : ℕ) (space : List ℕ) → schedule_reply net ws t (length space) ≡ wrote k
    → (file : List ℕ) → file ≡ take k (buffer_after net ws t space)
    → (before after : List ℕ) (reply : WriterSaid)
    → size_for file ≤ length before → reply ≡ annotated file (length before) → BufferAfter reply file before after
    → ScheduledTruly net ws t file (take (size_for file) after)

-- Judging the file of a minute with any annotation gives a wrong answer for the network of that minute at (m - 1) × (m - 1) pairs of points at most, at none for m 0 or 1, where that network has m arcs.
abbrev pub FewScheduledWrong : Type 0
FewScheduledWrong =
    (net : List ℕ) (ws : List Window) (t : ℕ) (ann : List ℕ) → AcceptedFile net
    → AtMost (misleading_points (length (arcs_at net ws t))) (λ r. IsPoint r × Wrong (setting_in net) (arcs_at net ws t) (judged (file_at net ws t) ann r))

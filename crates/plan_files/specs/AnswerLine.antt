-- What the judging program prints, as a function of the bytes of its three files (PANEL 10).
use Rattle.std.specs.Prelude.{◌≡◌, List, [], ◌∷◌, ℕ, leb, length, take}
use Rattle.prelude.specs.Choice.{pick}
use Rattle.network.specs.Question.{value, none}
use Rattle.points.specs.Points.{pair}
use Rattle.points.specs.declared.Point.{Point}
use Rattle.state.specs.Answers.{Said, accepted, gives, refused}
use Rattle.file_fields.specs.Bytes.{read32}
use Rattle.judging.specs.Judging.{judged}
use Rattle.io.specs.Counts.{IsPrefixLen}
use Rattle.program_io.specs.Line.{number_line, refused_line}
use Rattle.program_io.specs.Counted.{counted}
use Rattle.plan_files.specs.declared.answer_line.Judged.{Judged}

-- The pair of points in the first eight bytes: four each, the first point before the second, most significant byte first.
abbrev pub point_in : List ℕ → Point
point_in point = pair (read32 (take 8 point) 0) (read32 (take 8 point) 4)

-- The answer: refusal 4 where fewer than eight bytes hold the points, whatever the other two files hold; else that of judging what counts of them, at the points.
unfoldable pub program_answer : List ℕ → List ℕ → List ℕ → Said
program_answer point net ann = pick (leb 8 (length point)) (judged (counted net) (counted ann) (point_in point)) (refused 4)

-- The line of an answer: `value` and the number, `none`, or `refused` and the number. An acceptance has none.
abbrev pub answer_line : Said → List ℕ
answer_line (gives (value v)) = number_line (118 ∷ 97 ∷ 108 ∷ 117 ∷ 101 ∷ 32 ∷ []) v
answer_line (gives none) = 110 ∷ 111 ∷ 110 ∷ 101 ∷ 10 ∷ []
answer_line (refused k) = refused_line k
answer_line accepted = []

-- The line for the bytes of point.bin, plan.drn and plan.dra.
abbrev pub program_line : List ℕ → List ℕ → List ℕ → List ℕ
program_line point net ann = answer_line (program_answer point net ann)

-- The three files were read into buffers, so many bytes of each, and the line is that for what was read.
pub record JudgedFiles (point net ann : List ℕ) (r : Judged) : Type 0 where
  pub point_read : IsPrefixLen r.point point
  pub net_read : IsPrefixLen r.net net
  pub ann_read : IsPrefixLen r.ann ann
  pub line_is : r.line ≡ program_line (take r.point point) (take r.net net) (take r.ann ann)

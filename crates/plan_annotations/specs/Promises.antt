-- What is promised of the annotating program (PANEL 10); proofs/Promises.antt keeps it.
use Rattle.std.specs.Prelude.{◌≡◌, List, ℕ}
use Rattle.prelude.specs.Checks.{settle}
use Rattle.acceptance.specs.Acceptance.{acceptance_checks}
use Rattle.format.specs.Replies.{wrote, declined}
use Rattle.annotation_writing.specs.Requests.{size_for}
use Rattle.program_io.specs.Counted.{counted}
use Rattle.plan_annotations.specs.AnnotationLine.{file_reply}

-- The room of 32768 bytes is large enough for every annotation: no check but those by which the panel accepts the file refuses.
abbrev pub RoomEnough : Type 0
RoomEnough = (net : List ℕ) → file_reply net 32768 ≡ settle declined (acceptance_checks (counted net)) (wrote (size_for (counted net)))

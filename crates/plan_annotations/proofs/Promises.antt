-- The promise of specs/Promises.antt, kept.
use Rattle.program_io.specs.Counted.{counted}
use Rattle.plan_annotations.specs.AnnotationLine.{file_reply}
use Rattle.plan_annotations.specs.Promises.{RoomEnough}
use Rattle.plan_annotations.proofs.Room.{in_room}

pub room_enough : RoomEnough
unfolding file_reply
room_enough net = in_room (counted net)

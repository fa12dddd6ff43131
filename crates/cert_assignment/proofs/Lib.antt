pub mod AssignmentAnswer

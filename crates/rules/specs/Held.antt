-- What the code holds of the ends of an arc, as the definitions of the network have them.
use Rattle.network.specs.Certificate.{Ends as EndsOfArc}
use Rattle.rules.specs.declared.annotation.Ends.{Ends}

-- What the ends of an arc have.
abbrev pub ends_held : Ends → EndsOfArc
ends_held e = record { tail_number = e.tail_number; head_number = e.head_number; tail_marked = e.tail_marked; head_marked = e.head_marked }

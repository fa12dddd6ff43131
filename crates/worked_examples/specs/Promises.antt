-- What is promised of the worked examples (PANEL 13); proofs/Promises.antt keeps it.
use Rattle.prelude.specs.Lists.{Every}
use Rattle.worked_examples.specs.Table.{Yields, table}

-- The definitions yield the outcomes of the whole table.
abbrev pub WorkedExamples : Type 0
WorkedExamples = Every Yields table

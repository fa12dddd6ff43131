-- What a preflow that moved leaves: both indices, and amounts that conserve what stood.
use mathlib.Core.Bool.{true}
use mathlib.Core.List.{List}
use Prim.Native.Nat.{ℕ}
use Rattle.flow_arcs.specs.Links.{Links}
use Rattle.flow_moves.specs.Preflow.{Ready}
use Rattle.flow_moves.proofs.Conserving.{out_links, into_links}
use Rattle.flow_preflow.specs.Outcome.{PreflowOutcome}

pub record AfterPreflow (arcs x left out into : List ℕ) : Type 0 where
  pub out_linked : Links arcs out
  pub into_linked : Links arcs into
  pub ready : Ready arcs x left

pub after_preflow : {arcs : List ℕ} {s t supply : ℕ} {x left out into x' left' out' into' : List ℕ}
    → PreflowOutcome arcs s t supply x left out into x' left' out' into' true → AfterPreflow arcs x' left' out' into'
after_preflow (PreflowOutcome.moved e o i c) = record { out_linked = out_links o; into_linked = into_links i; ready = record { start = _; holds = c } }

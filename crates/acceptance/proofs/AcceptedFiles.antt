-- The checks of a network file in three parts, and what is known of one that is accepted.
use mathlib.Core.Path.{◌≡◌, refl, sym, ◌∙◌}
use mathlib.Core.List.{List, ◌++◌}
use Prim.Native.Nat.{ℕ, ◌≤◌}
use native.Mathlib.Omega.{arith}
use lib.ListN.{length}
use Rattle.prelude.specs.Checks.{Check, first_broken, Hold}
use Rattle.prelude.specs.Lists.{Every}
use Rattle.prelude.proofs.Settle.{hold_append, hold_left, hold_right, Numbered, numbered_append, none_broken, part_refused, part_passed}
use Rattle.arc_records.specs.Limits.{most_arcs}
use Rattle.network.specs.Question.{Opened, Allowed}
use Rattle.network.specs.Tests.{opening_checks, reading_all}
use Rattle.network.proofs.Allowed.{opening_rule, opening_numbered, reading_rule, reading_few, reading_numbered}
use Rattle.format.specs.Files.{setting_in, arcs_in, network_layout}
use Rattle.acceptance.specs.Acceptance.{acceptance_checks, AcceptedFile}

module _ (net : List ℕ) where
  abbrev opens : List Check
  opens = opening_checks (setting_in net)

  abbrev reads : List Check
  reads = reading_all (setting_in net) 0 (arcs_in net)

  layout_numbered : Numbered (network_layout net)
  layout_numbered = (refl, (refl, (refl, tt)))

  -- no check has the number 0, so that 0 says that the file is accepted
  pub acceptance_numbered : Numbered (acceptance_checks net)
  acceptance_numbered =
      numbered_append (network_layout net) (opens ++ reads) layout_numbered
      (numbered_append opens reads (opening_numbered (setting_in net)) (reading_numbered (setting_in net) 0 (arcs_in net)))

  pub accepted_by : (why : ℕ) → why ≡ first_broken (acceptance_checks net) → why ≡ 0 → AcceptedFile net
  accepted_by why found fine = none_broken (acceptance_checks net) acceptance_numbered (sym found ∙ fine)

  -- ---- what is found, part by part

  module _ (layout : ℕ) (found : layout ≡ first_broken (network_layout net)) where
    pub at_layout : (layout ≡ 0 → ⊥) → layout ≡ first_broken (acceptance_checks net)
    at_layout = part_refused (λ k. k) (network_layout net) (opens ++ reads) 0 layout_numbered layout found

    module _ (fine : layout ≡ 0) (opening : ℕ) (opened : opening ≡ first_broken opens) where
      past_layout : (k : ℕ) → k ≡ first_broken (opens ++ reads) → k ≡ first_broken (acceptance_checks net)
      past_layout = part_passed (λ k. k) (network_layout net) (opens ++ reads) 0 layout_numbered layout found fine

      pub at_opening : (opening ≡ 0 → ⊥) → opening ≡ first_broken (acceptance_checks net)
      at_opening n = past_layout opening (part_refused (λ k. k) opens reads 0 (opening_numbered (setting_in net)) opening opened n)

      pub at_reading : opening ≡ 0 → (k : ℕ) → k ≡ first_broken reads → k ≡ first_broken (acceptance_checks net)
      at_reading z k e = past_layout k (part_passed (λ j. j) opens reads 0 (opening_numbered (setting_in net)) opening opened z k e)

  -- ---- all of it

  pub accepted : Hold (network_layout net) → Hold opens → Hold reads → AcceptedFile net
  accepted l o r = hold_append (network_layout net) (opens ++ reads) l (hold_append opens reads o r)

  module _ (h : AcceptedFile net) where
    pub layout_held : Hold (network_layout net)
    layout_held = hold_left (network_layout net) (opens ++ reads) h

    pub opening_held : Hold opens
    opening_held = hold_left opens reads (hold_right (network_layout net) (opens ++ reads) h)

    pub reading_held : Hold reads
    reading_held = hold_right opens reads (hold_right (network_layout net) (opens ++ reads) h)

    pub file_opened : Opened (setting_in net)
    file_opened = opening_rule (setting_in net) opening_held

    pub file_allowed : Every (Allowed (setting_in net)) (arcs_in net)
    file_allowed = reading_rule (setting_in net) 0 (arcs_in net) reading_held

    pub file_few : length (arcs_in net) ≤ most_arcs
    file_few = omega (arith, reading_few (setting_in net) 0 (arcs_in net) (omega arith) reading_held)

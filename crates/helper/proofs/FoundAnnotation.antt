-- The annotation of an accepted file: the solver takes what was gathered, and what it finds is what stands in the buffer.
use mathlib.Core.Path.{◌≡◌, refl, sym, ◌∙◌, ap, ap₂, subst}
use mathlib.Core.Bool.{Bool, true, ◌&&◌, false≢true}
use mathlib.Core.List.{List, [], ◌∷◌, ◌++◌, flat_map}
use Prim.Native.Nat.{ℕ, ◌≤◌}
use native.Mathlib.Nat.{zero-add}
use native.Mathlib.Omega.{arith}
use lib.IntN.{ℤ}
use lib.ListN.{length, take, drop, length-append, length-map}
use lib.Seq.{sets, sets-eq, take-append_seam, drop-append_seam}
use borrow.Author.Tests.{eq-eqb, le-leb}
use Rattle.prelude.specs.Checks.{first_broken}
use Rattle.prelude.specs.Lists.{Every, all, list_to}
use Rattle.prelude.proofs.Lists.{list_to_length}
use Rattle.prelude.proofs.Settle.{settled}
use Rattle.arc_records.specs.Limits.{most_vertices, most_arcs}
use Rattle.arc_records.specs.Arcs.{Arc, word_arc, word_arcs}
use Rattle.network.specs.Network.{Load, loads_of}
use Rattle.network.specs.Question.{Setting, Allowed}
use Rattle.network.specs.Certificate.{claim_for}
use Rattle.network.specs.Tests.{opening_checks, arc_checks, claim_number}
use Rattle.network.proofs.Allowed.{arc_test}
use Rattle.file_fields.specs.Bytes.{byte32, read_signed}
use Rattle.format.specs.Files.{setting_in, n_in, count_in, arc_in, arcs_in, annotation_header, annotation_file, load_bytes, load_at}
use Rattle.format.specs.Promises.{Signed32, LoadFits}
use Rattle.format.proofs.Records.{flat_length}
use Rattle.format.proofs.Codings.{numbers_coded, loads_coded}
use Rattle.acceptance.specs.Acceptance.{AcceptedFile}
use Rattle.acceptance.proofs.AcceptedFiles.{opening_held, file_opened, file_allowed, file_few}
use Rattle.packed_arcs.specs.Entries.{zero_list}
use Rattle.packed_arcs.proofs.LentParts.{zero_list_length, lent_again}
use Rattle.cert_instances.specs.Certify.{record_ok, admissible, Solution, CertifyOutcome, refused, solved}
use Rattle.cert_instances.proofs.ColumnsAndLoads.{loads_arcs}
use Rattle.annotation_writing.specs.Requests.{size_for}
use Rattle.annotation_writing.proofs.WrittenParts.{loads_length}
use Rattle.helper.specs.Helper.{AnnotationIn}

-- ---- what was gathered is admissible

records_ok : (st : Setting) (rs : List ℕ) → Every (Allowed st) (word_arcs rs) → all (record_ok st) rs ≡ true
records_ok st [] h = refl
records_ok st (r ∷ rs) h =
    ap₂ ◌&&◌ (eq-eqb (first_broken (arc_checks st (word_arc r))) 0 (settled (λ k. k) (arc_checks st (word_arc r)) 0 (arc_test st (word_arc r) h.0))) (records_ok st rs h.1)

all_five : {a b c d e : Bool} → a ≡ true → b ≡ true → c ≡ true → d ≡ true → e ≡ true → (a && b && c && d && e) ≡ true
all_five p q r s t = λ i. p i && q i && r i && s i && t i

-- what the solver found for a file: as many numbers and amounts as the file says, and a certificate
pub record FoundSolution (net : List ℕ) (ys : List ℤ) (xs : List ℕ) (claim : ℕ) : Type 0 where
  pub numbers_many : length ys ≡ n_in net
  pub amounts_many : length xs ≡ count_in net
  pub solution : Solution (setting_in net) (arcs_in net) ys xs claim

-- what came back of something admissible
came_back : (net : List ℕ) (st : Setting) (rs : List ℕ) (ys ys' : List ℤ) (xs xs' : List ℕ) (claim : ℕ) → st ≡ setting_in net → word_arcs rs ≡ arcs_in net
    → length ys ≡ n_in net → length xs ≡ count_in net → admissible st rs (length ys) (length xs) ≡ true → CertifyOutcome st rs ys xs ys' xs' claim → FoundSolution net ys' xs' claim
came_back net st rs ys ys' xs xs' claim filed e p q ok (refused n a b k) = absurd (false≢true (sym n ∙ ok))
came_back net st rs ys ys' xs xs' claim filed e p q ok (solved o a b s) =
    record { numbers_many = a ∙ p; amounts_many = b ∙ q; solution = subst (λ (k : Setting). Solution k (arcs_in net) ys' xs' claim) filed (subst (λ (l : List Arc). Solution st l ys' xs' claim) e s) }

module _ (net : List ℕ) (h : AcceptedFile net) where
  pub few_arcs : (m : ℕ) → m ≡ count_in net → m ≤ most_arcs
  few_arcs m e = omega (arith, file_few net h, list_to_length (count_in net) (arc_in net))

  pub few_vertices : (n : ℕ) → n ≡ n_in net → n ≤ most_vertices
  few_vertices n e = omega (arith, (file_opened net h).sized.at_most)

  module _ (rs : List ℕ) (e : word_arcs rs ≡ arcs_in net) where
    pub records_many : length rs ≡ count_in net
    records_many = sym (length-map rs word_arc) ∙ ap length e ∙ list_to_length (count_in net) (arc_in net)

    gathered_admissible : (i j : ℕ) → i ≡ n_in net → j ≡ count_in net → admissible (setting_in net) rs i j ≡ true
    gathered_admissible i j p q =
        all_five
        (eq-eqb (first_broken (opening_checks (setting_in net))) 0 (settled (λ k. k) (opening_checks (setting_in net)) 0 (opening_held net h)))
        (le-leb (length rs) most_arcs (few_arcs (length rs) records_many))
        (eq-eqb i (n_in net) p)
        (eq-eqb j (length rs) (q ∙ sym records_many))
        (records_ok (setting_in net) rs (subst (Every (Allowed (setting_in net))) (sym e) (file_allowed net h)))

    pub found : (st : Setting) (ys ys' : List ℤ) (xs xs' : List ℕ) (claim : ℕ) → st ≡ setting_in net → length ys ≡ n_in net → length xs ≡ count_in net
        → CertifyOutcome st rs ys xs ys' xs' claim → FoundSolution net ys' xs' claim
    found st ys ys' xs xs' claim filed p q =
        came_back net st rs ys ys' xs xs' claim filed e p q
        (subst (λ (k : Setting). admissible k rs (length ys) (length xs) ≡ true) (sym filed) (gathered_admissible (length ys) (length xs) p q))

-- the records that were gathered from m zeros, lent again
pub gathered_again : (net rs : List ℕ) (m k : ℕ) → m ≤ k → m ≡ count_in net → word_arcs rs ≡ list_to (length (take m (zero_list k))) (arc_in net)
    → (length rs ≡ m) × (word_arcs (take m (rs ++ drop m (zero_list k))) ≡ arcs_in net)
gathered_again net rs m k h c e =
    let n = sym (length-map rs word_arc) ∙ ap length e ∙ list_to_length (length (take m (zero_list k))) (arc_in net) ∙ zero_list_length m k h in
    (n, ap word_arcs (lent_again m (zero_list k) rs n) ∙ e ∙ ap (λ (j : ℕ). list_to j (arc_in net)) (zero_list_length m k h ∙ c))

-- ---- what stands in the buffer

module _ (net before : List ℕ) (ys : List ℤ) (xs : List ℕ) (claim : ℕ) (f : FoundSolution net ys xs claim) where
  abbrev loads : List Load
  loads = loads_of (arcs_in net) xs

  abbrev whole : List ℕ
  whole = annotation_header claim (count_in net) ++ (flat_map byte32 ys ++ flat_map load_bytes loads)

  loads_many : length loads ≡ count_in net
  loads_many = loads_length (arcs_in net) xs ∙ list_to_length (count_in net) (arc_in net)

  whole_length : length whole ≡ size_for net
  whole_length =
      length-append (annotation_header claim (count_in net)) (flat_map byte32 ys ++ flat_map load_bytes loads)
      ∙ omega (
        arith,
        length-append (flat_map byte32 ys) (flat_map load_bytes loads),
        flat_length byte32 read_signed 4 Signed32 numbers_coded ys,
        flat_length load_bytes load_at 6 LoadFits loads_coded loads,
        loads_many,
        f.numbers_many,
      )

  pub filled : (rs : List ℕ) (count : ℕ) (after : List ℕ) → word_arcs rs ≡ arcs_in net → count ≡ count_in net → size_for net ≤ length before
      → after ≡ sets before 0 (annotation_header claim count ++ (flat_map byte32 ys ++ flat_map load_bytes (loads_of (word_arcs rs) xs))) → AnnotationIn net before after
  unfolding annotation_file
  filled rs count after same counted room e = record {
    annotation = record {
      answer = s.answer;
      numbers = ys;
      loads = loads;
      one_each = f.numbers_many;
      in_order = loads_arcs (arcs_in net) xs;
      certified = s.certified;
      lengths = s.lengths;
      bytes = front ∙ as_file;
    };
    beyond = ap (drop (size_for net)) laid ∙ ap (λ (k : ℕ). drop k (whole ++ drop (size_for net) before)) (sym whole_length) ∙ drop-append_seam whole (drop (size_for net) before);
  }
    where
      s : Solution (setting_in net) (arcs_in net) ys xs claim
      s = f.solution

      laid : after ≡ whole ++ drop (size_for net) before
      laid = e ∙ ap₂ (λ (k : ℕ) (es : List Arc). sets before 0 (annotation_header claim k ++ (flat_map byte32 ys ++ flat_map load_bytes (loads_of es xs)))) counted same
          ∙ sets-eq whole before 0 (omega (arith, whole_length)) ∙ ap (λ (k : ℕ). whole ++ drop k before) (zero-add (length whole) ∙ whole_length)

      front : take (size_for net) after ≡ whole
      front = ap (take (size_for net)) laid ∙ ap (λ (k : ℕ). take k (whole ++ drop (size_for net) before)) (sym whole_length) ∙ take-append_seam whole (drop (size_for net) before)

      as_file : whole ≡ annotation_file (claim_number (claim_for s.answer)) ys loads
      as_file = ap₂ (λ (k m : ℕ). annotation_header k m ++ (flat_map byte32 ys ++ flat_map load_bytes loads)) s.reply_is (sym loads_many)

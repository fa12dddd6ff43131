-- Lists that pass every check of a session meet the rules of the certificate; where the arcs are those read, in any order, the answer is true.
use mathlib.Core.Path.{◌≡◌, refl, sym, ◌∙◌, ap}
use mathlib.Core.Bool.{Bool, ◌&&◌}
use mathlib.Core.List.{List}
use Prim.Native.Nat.{ℕ}
use native.Mathlib.Omega.{arith}
use native.Mathlib.Decide.{ℕ_discrete}
use borrow.Author.Tests.{ne_eqb}
use lib.Dec.{T, leb, leb→le, eqb→eq}
use lib.IntN.{ℤ}
use lib.ListN.{length}
use Rattle.prelude.specs.Checks.{Hold}
use Rattle.prelude.specs.Lists.{Every, Perm, at}
use Rattle.prelude.proofs.Booleans.{and_left, and_right}
use Rattle.prelude.proofs.Lists.{every_map, image_every, every→all}
use Rattle.prelude.proofs.Permutations.{perm_sym}
use Rattle.prelude.proofs.Sums.{at_all_to}
use Rattle.arc_records.specs.Arcs.{Arc}
use Rattle.network.specs.Network.{Load, arcs}
use Rattle.network.specs.Question.{Question, shortest_path, maximum_flow, assignment, acyclicity, unasked, Setting, asks, Opened, Allowed, TrueAnswer}
use Rattle.network.specs.Certificate.{Claim, of_value, of_none, claim_for, Sums, rules_for, rules_of, Certified}
use Rattle.network.specs.Tests.{claim_number, claim_of, node_ok, amount_ok, rule_ok, finishing_checks, answer_of, Passed}
use Rattle.network.proofs.Promises.{certificates_sound}
use Rattle.network.proofs.Tests.{passed_certified}
use Rattle.points.specs.Points.{print_of}
use Rattle.points.specs.declared.Point.{Point}
use Rattle.points.proofs.Prints.{same_print_lem}
use Rattle.runs.specs.AcceptedLists.{numbers_of, sums_at, agree_at}
use Rattle.runs.specs.Exchange.{final_rules, Meets}
use Rattle.runs.proofs.Invariant.{LoadPassed, AnnotationPassed}

-- ---- the claim that stands is that of the answer

claim_named : (k : ℕ) → T (leb 1 k && leb k 2) → claim_number (claim_of k) ≡ k
claim_named k t = go (ℕ_discrete k 1)
  where
    go : Dec (k ≡ 1) → claim_number (claim_of k) ≡ k
    go (yes e) = rw e refl
    go (no ne) = rw (ne_eqb k 1 ne) (omega (arith, leb→le 1 k (and_left (leb 1 k) (leb k 2) t), leb→le k 2 (and_right (leb 1 k) (leb k 2) t)))

claim_answered : (q : Question) (c : Claim) → T (rules_for q c).admitted → (u : Sums) → claim_for ((rules_for q c).answer u) ≡ c
claim_answered shortest_path of_value h u = refl
claim_answered shortest_path of_none h u = refl
claim_answered maximum_flow of_value h u = refl
claim_answered maximum_flow of_none h u = refl
claim_answered assignment of_value h u = refl
claim_answered assignment of_none h u = refl
claim_answered acyclicity of_value h u = refl
claim_answered acyclicity of_none h u = refl
claim_answered unasked c h u = absurd h

-- ---- lists that pass every check

module _ (st : Setting) (l : List Arc) (k : ℕ) (ys : List ℤ) (f : List Load) (g : AnnotationPassed st l k ys f) where
  pub again : Every (Allowed st) (arcs f)
  again = image_every (λ b. b.arc) (Allowed st) f (every_map (λ b (h : LoadPassed st (numbers_of (claim_of k) ys) b). h.allowed) f g.loads)

  module _ (same : Bool) (h : Hold (finishing_checks st (numbers_of (claim_of k) ys) (length l) (length f) same (sums_at st ys f))) where
    pub same_size : length f ≡ length l
    same_size = omega (arith, leb→le (length l) (length f) h.1.0, g.repeated)

    passed : Passed st (claim_of k) (at ys) f
    passed = record {
      claim = and_right (leb 1 k && leb k 2) (rules_of st (claim_of k)).admitted g.claim_holds;
      nodes = at_all_to st.n (λ v. node_ok st (claim_of k) v (at ys v)) (λ v b. g.nodes v (omega (arith, eqb→eq (length ys) st.n h.0)));
      amounts = every→all (amount_ok st (claim_of k)) (λ b (u : LoadPassed st (numbers_of (claim_of k) ys) b). u.amount_holds) f g.loads;
      on_arcs = every→all (rule_ok st (numbers_of (claim_of k) ys)) (λ b (u : LoadPassed st (numbers_of (claim_of k) ys) b). u.rule_holds) f g.loads;
      balances = h.1.1.1.0;
      sums = h.1.1.1.1.0;
    }

    certifies : Certified st (at ys) f (answer_of st (claim_of k) (sums_at st ys f))
    certifies = passed_certified st (claim_of k) (at ys) f passed

    pub true_answer : Opened st → Perm l (arcs f) → TrueAnswer st l (answer_of st (claim_of k) (sums_at st ys f))
    true_answer o m = certificates_sound st l (at ys) f (answer_of st (claim_of k) (sums_at st ys f)) o g.list.allowed (perm_sym m) certifies

  -- at a pair where the fingerprints agree
  pub meets : (r : Point) → Hold (final_rules st r l k ys f) → Meets st r l k ys f (answer_of st (claim_of k) (sums_at st ys f))
  meets r h =
      let named = leb 1 k && leb k 2 in
      let admitted = and_right named (rules_of st (claim_of k)).admitted g.claim_holds in
      record {
        claims = sym (ap claim_number (claim_answered (asks st) (claim_of k) admitted (sums_at st ys f)) ∙ claim_named k (and_left named (rules_of st (claim_of k)).admitted g.claim_holds));
        one_each = eqb→eq (length ys) st.n h.0;
        records = again;
        certificate = certifies (agree_at r l (arcs f)) h;
        as_many = same_size (agree_at r l (arcs f)) h;
        fingerprints = same_print_lem (print_of r l) (print_of r (arcs f)) h.1.1.0;
      }

-- The promises of specs/Promises.antt, kept: what the helper wrote fits the layout, and judging answers it truly; so it does without self-loops and for the file of a minute.
use mathlib.Core.Path.{◌≡◌, sym, ◌∙◌, ap, subst}
use mathlib.Core.List.{List, [], ◌∷◌}
use Prim.Native.Nat.{ℕ, suc, ◌+◌, ◌≤◌, ◌<◌}
use native.Mathlib.Nat.{le_trans}
use native.Mathlib.Omega.{arith}
use lib.Dec.{leb, le→leb}
use lib.IntN.{ℤ}
use lib.ListN.{length, take}
use lib.Signed.{◌≤ℤ◌, le_z, le_z_yes}
use Rattle.prelude.specs.Checks.{◌unless◌}
use Rattle.prelude.specs.Integers.{between}
use Rattle.prelude.specs.Lists.{Every, Perm, AtMost, at}
use Rattle.prelude.proofs.Booleans.{and_left, and_right}
use Rattle.prelude.proofs.Settle.{settled, hold_append}
use Rattle.prelude.proofs.Integers.{signed, parts_mag, parts_min}
use Rattle.prelude.proofs.Lists.{every_map, every_zip, every_image}
use Rattle.prelude.proofs.Permutations.{perm_refl}
use Rattle.arc_records.specs.Arcs.{Arc}
use Rattle.network.specs.Network.{without_self_loops, Load, arcs}
use Rattle.network.specs.Question.{Question, shortest_path, maximum_flow, assignment, acyclicity, unasked, Setting, asks, Opened, Allowed, Answer, TrueAnswer}
use Rattle.network.specs.Certificate.{Claim, of_value, of_none, rules_for, CertifiedBy, claim_for}
use Rattle.network.specs.Tests.{claim_number}
use Rattle.network.proofs.Promises.{one_answer, self_loops_change_nothing}
use Rattle.network.proofs.SelfLoops.{admissible_without}
use Rattle.points.specs.Points.{IsPoint, no_point, misleading_points}
use Rattle.points.proofs.Prints.{no_point_lem}
use Rattle.points.specs.declared.Point.{Point}
use Rattle.state.specs.Answers.{gives}
use Rattle.format.specs.Files.{setting_in, arcs_in, annotation_file}
use Rattle.format.specs.Promises.{Signed32, LoadFits}
use Rattle.acceptance.specs.Acceptance.{acceptance_checks, AcceptedFile}
use Rattle.acceptance.specs.Promises.{Says}
use Rattle.acceptance.proofs.AcceptedFiles.{file_opened, file_allowed}
use Rattle.acceptance.proofs.Promises.{written_accepted, accepted_means}
use Rattle.runs.specs.Run.{Wrong}
use Rattle.judging.specs.Judging.{judged}
use Rattle.judging.proofs.Promises.{judged_by_steps, few_judged_wrong, certificates_judged}
use Rattle.format.specs.Replies.{WriterSaid, wrote, declined}
use Rattle.annotation_writing.specs.Requests.{size_for, annotate_checks}
use Rattle.helper.specs.Helper.{Annotation, BufferAfter}
use Rattle.calendar_records.specs.MinuteNetwork.{arcs_at}
use Rattle.calendar.specs.Schedule.{file_at}
use Rattle.calendar.proofs.Promises.{file_accepted, writes, open_alone}
use Rattle.demands.specs.Promises.{JudgedTruly, HelperServes, file_without, SelfLoopsServed, ScheduleServes, FewScheduledWrong}

-- ---- the fields are wide enough for what meets the rules

-- the range of every row
range_fits : (q : Question) (c : Claim) (z : ℤ) → (rules_for q c).lowest ≤ℤ z → z ≤ℤ (rules_for q c).highest → Signed32 z
range_fits shortest_path of_value z l u = omega (signed, l, u, parts_mag z, parts_min z)
range_fits shortest_path of_none z l u = omega (signed, l, u, parts_mag z, parts_min z)
range_fits maximum_flow of_value z l u = omega (signed, l, u, parts_mag z, parts_min z)
range_fits maximum_flow of_none z l u = omega (signed, l, u, parts_mag z, parts_min z)
range_fits assignment of_value z l u = omega (signed, l, u, parts_mag z, parts_min z)
range_fits assignment of_none z l u = omega (signed, l, u, parts_mag z, parts_min z)
range_fits acyclicity of_value z l u = omega (signed, l, u, parts_mag z, parts_min z)
range_fits acyclicity of_none z l u = omega (signed, l, u, parts_mag z, parts_min z)
range_fits unasked c z l u = omega (signed, l, u, parts_mag z, parts_min z)

-- the most amount of every row
most_bounded : (q : Question) (c : Claim) (e : Arc) → (rules_for q c).most e ≤ 1 + e.weight
most_bounded shortest_path of_value e = omega arith
most_bounded shortest_path of_none e = omega arith
most_bounded maximum_flow of_value e = omega arith
most_bounded maximum_flow of_none e = omega arith
most_bounded assignment of_value e = omega arith
most_bounded assignment of_none e = omega arith
most_bounded acyclicity of_value e = omega arith
most_bounded acyclicity of_none e = omega arith
most_bounded unasked c e = omega arith

module _ (q : Question) (k : Claim) (st : Setting) (y : ℕ → ℤ) (f : List Load) (a : Answer) (c : CertifiedBy (rules_for q k) q st y f a) where
  number_fits : (v : ℕ) → v < st.n → Signed32 (y v)
  number_fits v h =
      let low = (rules_for q k).lowest in
      let high = (rules_for q k).highest in
      let t = and_left (between low high (y v)) ((rules_for q k).on_node st v (y v)) (c.nodes v h) in
      range_fits q k (y v) (le_z_yes (and_left (le_z low (y v)) (le_z (y v) high) t)) (le_z_yes (and_right (le_z low (y v)) (le_z (y v) high) t))

  amounts_bounded : Every (λ l. l.amount ≤ 1 + l.arc.weight) f
  amounts_bounded = every_map (λ l h. le_trans h (most_bounded q k l.arc)) f c.amounts

numbers_fit : (ys : List ℤ) → ((v : ℕ) → v < length ys → Signed32 (at ys v)) → Every Signed32 ys
numbers_fit [] h = tt
numbers_fit (y ∷ ys) h = (h 0 (omega arith), numbers_fit ys (λ v l. h (suc v) (omega arith)))

loads_fit : (st : Setting) (f : List Load) → Opened st → Every (Allowed st) (arcs f) → Every (λ l. l.amount ≤ 1 + l.arc.weight) f → Every LoadFits f
loads_fit st f o h b =
    every_zip {P = λ l. Allowed st l.arc} {Q = λ l. l.amount ≤ 1 + l.arc.weight}
    (λ l g k. record {
      arc = record {
        tail = omega (arith, g.joins.tail_below, o.sized.at_most);
        head = omega (arith, g.joins.head_below, o.sized.at_most);
        weight = omega (arith, g.weight_within);
      };
      amount = omega (arith, g.weight_within);
    })
    f (every_image (λ l. l.arc) (Allowed st) f h) b

-- ---- judged at every pair of points

pub annotation_judged : (net ann : List ℕ) → AcceptedFile net → Annotation net ann → JudgedTruly net ann
annotation_judged net ann h A = record {
  answer = A.answer;
  is_true = (at_point no_point no_point_lem).1;
  at_every_point = answered;
  by_steps = λ r hr. sym (judged_by_steps net ann r) ∙ answered r hr;
}
  where
    st : Setting
    st = setting_in net

    allowed : Every (Allowed st) (arcs A.loads)
    allowed = subst (λ (l : List Arc). Every (Allowed st) l) (sym A.in_order) (file_allowed net h)

    written : List ℕ
    written = annotation_file (claim_number (claim_for A.answer)) A.numbers A.loads

    at_point : (r : Point) → IsPoint r → (judged net written r ≡ gives A.answer) × TrueAnswer st (arcs_in net) A.answer
    at_point r hr =
        certificates_judged net A.numbers A.loads A.answer r h A.one_each
        (numbers_fit A.numbers (λ v l. number_fits (asks st) (claim_for A.answer) st (at A.numbers) A.loads A.answer A.certified v (omega (arith, A.one_each))))
        (loads_fit st A.loads (file_opened net h) allowed (amounts_bounded (asks st) (claim_for A.answer) st (at A.numbers) A.loads A.answer A.certified))
        (subst (λ (l : List Arc). Perm l (arcs_in net)) (sym A.in_order) (perm_refl (arcs_in net))) A.certified hr

    answered : (r : Point) → IsPoint r → judged net ann r ≡ gives A.answer
    answered r hr = subst (λ (l : List ℕ). judged net l r ≡ gives A.answer) (sym A.bytes) (at_point r hr).0

pub helper_serves : HelperServes
helper_serves net before after reply h room e held =
    record { reply_is = wrote_size; annotation = found; truly = annotation_judged net (take (size_for net) after) h found }
  where
    wrote_size : reply ≡ wrote (size_for net)
    wrote_size =
        e
        ∙ settled declined (annotate_checks net (length before)) (wrote (size_for net))
        (hold_append (acceptance_checks net) (20 unless leb (size_for net) (length before) ∷ []) h (le→leb (size_for net) (length before) room, tt))

    found : Annotation net (take (size_for net) after)
    found = (subst (λ (d : WriterSaid). BufferAfter d net before after) wrote_size held).annotation

-- ---- what a file says

-- what holds of the setting and the arcs in a file holds of those that it says
said_in : (P : Setting → List Arc → Type 0) (st : Setting) (net : List Arc) (file : List ℕ) → Says st net file → P (setting_in file) (arcs_in file) → P st net
said_in P st net file s h = subst (P st) s.arcs_are (subst (λ (x : Setting). P x (arcs_in file)) s.setting_is h)

-- ---- basins

pub self_loops_served : SelfLoopsServed
self_loops_served net h q =
    let st = setting_in net in
    let bare = without_self_loops (arcs_in net) in
    let says : Says st bare (file_without net) = written_accepted st bare (admissible_without st (arcs_in net) (accepted_means net h)) in
    record { accepted = says.accepted; alike = λ ann other A B r hr. same says (annotation_judged net ann h A) (annotation_judged (file_without net) other says.accepted B) r hr }
  where
    same : {ann other : List ℕ} → Says (setting_in net) (without_self_loops (arcs_in net)) (file_without net) → (whole : JudgedTruly net ann) (rest : JudgedTruly (file_without net) other)
        → (r : Point) → IsPoint r → judged net ann r ≡ judged (file_without net) other r
    same says whole rest r hr =
        let st = setting_in net in
        let bare = without_self_loops (arcs_in net) in
        let left = (self_loops_change_nothing st (arcs_in net) whole.answer q).0 whole.is_true in
        let right = said_in (λ s l. TrueAnswer s l rest.answer) st bare (file_without net) says rest.is_true in
        whole.at_every_point r hr ∙ ap gives (one_answer st bare whole.answer rest.answer left right) ∙ sym (rest.at_every_point r hr)

-- ---- the file of a minute

pub schedule_serves : ScheduleServes
schedule_serves net ws t k space e file is before after reply room said held =
    let w = writes net ws t k space e in
    let arcs = arcs_at net ws t in
    let says : Says (setting_in net) arcs file = rw (is, w.file) (file_accepted net ws t w.accepted) in
    let truly = (helper_serves file before after reply says.accepted room said held).truly in
    let right = said_in (λ st l. TrueAnswer st l truly.answer) (setting_in net) arcs file says truly.is_true in
    record {
      answer = truly.answer;
      is_true = right;
      of_open_arcs = (open_alone (setting_in net) ws t (arcs_in net) truly.answer).0 right;
      at_every_point = truly.at_every_point;
      by_steps = truly.by_steps;
    }

pub few_scheduled_wrong : FewScheduledWrong
few_scheduled_wrong net ws t ann h =
    let file = file_at net ws t in
    said_in (λ st l. AtMost (misleading_points (length l)) (λ r. IsPoint r × Wrong st l (judged file ann r))) (setting_in net) (arcs_at net ws t) file
    (file_accepted net ws t h) (few_judged_wrong file ann)

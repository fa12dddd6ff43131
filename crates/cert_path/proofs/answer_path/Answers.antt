-- The part of the array that is lent is as long as the records, what is sent is what the question asks, and what comes of it is a solution.
use mathlib.Core.Path.{◌≡◌, sym, ◌∙◌, subst}
use mathlib.Core.List.{List, ◌++◌, map}
use Prim.Native.Nat.{ℕ}
use lib.ListN.{length, take, drop}
use Rattle.arc_records.specs.Limits.{most_arcs}
use Rattle.arc_records.specs.Arcs.{word_arcs}
use Rattle.network.specs.Question.{Setting, shortest_path, asks, Admissible}
use Rattle.checks.specs.Held.{asked}
use Rattle.packed_arcs.specs.Entries.{entry, zero_list}
use Rattle.packed_arcs.proofs.LentParts.{zero_list_length, lent_again, back_within, back_length}
use Rattle.cert_instances.specs.Instance.{VertexList, single}
use Rattle.cert_instances.specs.Certify.{packed_for}
use Rattle.cert_instances.proofs.FlowInputs.{few_records, packed_length, mark_low}
use Rattle.cert_path.proofs.PathAnswer.{PathInputs, sent_case, keys_length, distances_low, path_answer, no_path_answer}
use Rattle.cert_path.proofs.answer_path.Goals as goal

-- the arcs `P` are packed into the front of an array of zeros and lent again, and one unit stands at the source
inputs :
    {st : Setting} {rs P x l key : List ℕ} {n : ℕ} → Admissible st (word_arcs rs) × (asks st ≡ shortest_path) → length x ≡ length rs
    → (n ≡ st.n) × (length key ≡ st.n) → P ≡ map (packed_for (asks st)) rs → VertexList n (single st.s 1) l
    → PathInputs st rs (take (length rs) (P ++ drop (length rs) (zero_list most_arcs))) x l key
inputs {st} {rs} {P} {x} {l} {key} {n} q a k e s = record {
  accepted = q.0;
  path = q.1;
  packs = lent_again (length rs) (zero_list most_arcs) P (packed_length (asks st) rs P e) ∙ e;
  amounts = a;
  stands = subst (λ (n : ℕ). VertexList n (single st.s 1) l) k.0 s;
  key_len = k.1;
}

pub slice_bounds-arcs-end : goal.slice_bounds-arcs-end
slice_bounds-arcs-end c = few_records c.args.records.now c.requires.admissible.0

pub slice_bounds-pack-end : goal.slice_bounds-pack-end
slice_bounds-pack-end c = sym (zero_list_length (length c.args.records.now) most_arcs (few_records c.args.records.now c.requires.admissible.0))

pub pack-requires : goal.pack-requires
pack-requires c = zero_list_length (length c.args.records.now) most_arcs (few_records c.args.records.now c.requires.admissible.0)

pub slice_bounds-arcs-end-2 : goal.slice_bounds-arcs-end-2
slice_bounds-arcs-end-2 c =
    back_within (length c.args.records.now) (zero_list most_arcs) c.pack.new.arcs (packed_length (asks (asked c.args.st)) c.args.records.now c.pack.new.arcs c.pack.ensures)

pub slice_bounds-send-end : goal.slice_bounds-send-end
slice_bounds-send-end c =
    back_length (length c.args.records.now) (zero_list most_arcs) c.pack.new.arcs (packed_length (asks (asked c.args.st)) c.args.records.now c.pack.new.arcs c.pack.ensures)

pub write-requires : goal.write-requires
write-requires c =
    let i = inputs c.requires.admissible c.requires.amounts_len.0 c.requires.left_len c.pack.ensures c.stand.ensures in
    let r = sent_case i (rw c.in-Ok-Some.field-0-is at c.in-Ok-Some.ensures) in
    (c.requires.amounts_len.1 ∙ sym (keys_length i r.state r.found), distances_low i r)

pub write-requires-in-Ok-None : goal.write-requires-in-Ok-None
write-requires-in-Ok-None c =
    let i = inputs c.requires.admissible c.requires.amounts_len.0 c.requires.left_len c.pack.ensures c.stand.ensures in
    let r = sent_case i (rw c.in-Ok-None.field-0-is at c.in-Ok-None.ensures) in
    (c.requires.amounts_len.1 ∙ sym (keys_length i r.state r.found), λ v h. mark_low (entry c.send.new.key v))

pub returns-in-Ok-Some : goal.returns-in-Ok-Some
returns-in-Ok-Some c =
    let i = inputs c.requires.admissible c.requires.amounts_len.0 c.requires.left_len c.pack.ensures c.stand.ensures in
    path_answer i (sent_case i (rw c.in-Ok-Some.field-0-is at c.in-Ok-Some.ensures)) c.write.ensures

pub returns-in-Ok-None : goal.returns-in-Ok-None
returns-in-Ok-None c =
    let i = inputs c.requires.admissible c.requires.amounts_len.0 c.requires.left_len c.pack.ensures c.stand.ensures in
    no_path_answer i (sent_case i (rw c.in-Ok-None.field-0-is at c.in-Ok-None.ensures)) c.write-in-Ok-None.ensures

pub unreachable-requires : goal.unreachable-requires
unreachable-requires c =
    let i = inputs c.requires.admissible c.requires.amounts_len.0 c.requires.left_len c.pack.ensures c.stand.ensures in
    absurd (sent_case i c.in-Err.ensures)

-- The promises of specs/Promises.antt, kept.
use mathlib.Core.Path.{◌≡◌, refl, sym, ◌∙◌, ap, ap₂, subst}
use mathlib.Core.Logic.{◌⊎◌, inl, inr}
use mathlib.Core.List.{List, [], ◌∷◌, ◌++◌, flat_map, append-nil, append_assoc}
use Prim.Native.Nat.{ℕ, ◌+◌, ◌*◌}
use native.Mathlib.Decide.{ℕ_discrete}
use native.Mathlib.Omega.{arith}
use lib.ListN.{length, length-append}
use Rattle.prelude.specs.Checks.{first_broken}
use Rattle.prelude.specs.Lists.{list_to}
use Rattle.prelude.proofs.Lists.{every_append, list_to_length}
use Rattle.file_fields.specs.Bytes.{byte_at, byte32, read_signed}
use Rattle.format.specs.Files.{network_mark, annotation_mark, network_size, annotation_size, network_header, annotation_header, arc_bytes, load_bytes, network_file, annotation_file, arc_at, load_at}
use Rattle.format.specs.Files.{question_in, n_in, s_in, t_in, setting_in, count_in, claim_in, annotation_count, arc_in, load_in, network_layout, annotation_layout}
use Rattle.format.specs.Promises.{Byte, ArcFits, LoadFits, Signed32, NetworkRoundTrip, AnnotationRoundTrip, OnlyNetwork, OnlyAnnotation, OneLayout}
use Rattle.format.proofs.Halves.{whole}
use Rattle.format.proofs.Windows.{window, window_append, window_all, pair}
use Rattle.format.proofs.Records.{flat_length, flat_bytes, read_back, written_back}
use Rattle.format.proofs.Codings.{both_bytes, arcs_coded, loads_coded, numbers_coded}
use Rattle.format.proofs.Layouts.{holds, length_is, begins, other_mark}

-- ---- written and read back

pub network_round_trip : NetworkRoundTrip
unfolding network_file
network_round_trip st arcs h m w =
    let header = network_header st (length arcs) in
    let file = header ++ flat_map arc_bytes arcs in
    let body = flat_length arc_bytes arc_at 4 ArcFits arcs_coded arcs in
    let count = both_bytes (length arcs) (omega arith) in
    record {
      bytes = every_append Byte header (flat_map arc_bytes arcs)
          (omega arith, (omega arith, (omega arith, (omega arith, (omega arith, (h.question, (h.n, (h.s, (h.t, count))))))))) (flat_bytes arc_bytes arc_at 4 ArcFits arcs_coded arcs w);
      passes = holds 11 network_mark (network_size (count_in file)) file (omega arith) tt refl (omega arith);
      setting_back = refl;
      arcs_back =
          ap (λ (k : ℕ). list_to k (arc_in file)) (whole 256 (length arcs))
          ∙ subst (λ (l : List ℕ). list_to (length arcs) (arc_in (header ++ l)) ≡ arcs) (append-nil (flat_map arc_bytes arcs))
          (read_back arc_bytes arc_at 4 ArcFits arcs_coded header [] arcs w);
    }

pub annotation_round_trip : AnnotationRoundTrip
unfolding annotation_file
annotation_round_trip claim numbers loads hc wn m wl =
    let header = annotation_header claim (length loads) in
    let first = flat_map byte32 numbers in
    let second = flat_map load_bytes loads in
    let file = header ++ (first ++ second) in
    let n = length numbers in
    let long = flat_length byte32 read_signed 4 Signed32 numbers_coded numbers in
    let size : length file ≡ annotation_size n (annotation_count file) = omega (arith, length-append first second, flat_length load_bytes load_at 6 LoadFits loads_coded loads) in
    let same : (header ++ first) ++ (second ++ []) ≡ file = append_assoc header first (second ++ []) ∙ ap (λ (l : List ℕ). header ++ (first ++ l)) (append-nil second) in
    record {
      bytes = every_append Byte header (first ++ second)
          (omega arith, (omega arith, (omega arith, (omega arith, (omega arith, (hc, both_bytes (length loads) (omega arith)))))))
          (every_append Byte first second (flat_bytes byte32 read_signed 4 Signed32 numbers_coded numbers wn) (flat_bytes load_bytes load_at 6 LoadFits loads_coded loads wl));
      passes = holds 8 annotation_mark (annotation_size n (annotation_count file)) file (omega arith) tt refl size;
      claim_back = refl;
      numbers_back = read_back byte32 read_signed 4 Signed32 numbers_coded header second numbers wn;
      loads_back =
          ap (λ (k : ℕ). list_to k (load_in n file)) (whole 256 (length loads))
          ∙ sym (ap₂ (λ (l : List ℕ) (i : ℕ). list_to (length loads) (λ e. load_at l (i + 6 * e))) same (omega arith))
          ∙ read_back load_bytes load_at 6 LoadFits loads_coded (header ++ first) [] loads wl;
    }

-- ---- only one encoding

pub only_network : OnlyNetwork
unfolding network_file window
only_network file b p =
    let k = count_in file in
    let size : 11 + 4 * k ≡ length file = omega (arith, length_is 11 network_mark (network_size k) file p) in
    sym (ap₂ ◌++◌
    (ap (network_header (setting_in file)) (list_to_length k (arc_in file))
    ∙ ap₂ (λ (m c : List ℕ). m ++ question_in file ∷ n_in file ∷ s_in file ∷ t_in file ∷ c) (begins 11 network_mark (network_size k) file b p) (pair file b 9))
    (written_back arc_bytes arc_at 4 ArcFits arcs_coded file b 11 k)
    ∙ sym (window_append file 0 11 (4 * k))
    ∙ ap (window file 0) size
    ∙ window_all file)

pub only_annotation : OnlyAnnotation
unfolding annotation_file window
only_annotation n file b p =
    let k = annotation_count file in
    let size : 8 + (4 * n + 6 * k) ≡ length file = omega (arith, length_is 8 annotation_mark (annotation_size n k) file p) in
    sym (ap₂ ◌++◌
    (ap (annotation_header (claim_in file)) (list_to_length k (load_in n file))
    ∙ ap₂ (λ (m c : List ℕ). m ++ claim_in file ∷ c) (begins 8 annotation_mark (annotation_size n k) file b p) (pair file b 6))
    (ap₂ ◌++◌ (written_back byte32 read_signed 4 Signed32 numbers_coded file b 8 n) (written_back load_bytes load_at 6 LoadFits loads_coded file b (8 + 4 * n) k)
    ∙ sym (window_append file 8 (4 * n) (6 * k)))
    ∙ sym (window_append file 0 8 (4 * n + 6 * k))
    ∙ ap (window file 0) size
    ∙ window_all file)

-- ---- two marks

pub one_layout : OneLayout
one_layout n file = by (ℕ_discrete (byte_at file 2) network_mark)
  where
    by : Dec (byte_at file 2 ≡ network_mark) → (first_broken (network_layout file) ≡ 17) ⊎ (first_broken (annotation_layout n file) ≡ 17)
    by (yes e) = inr (other_mark 8 annotation_mark (annotation_size n (annotation_count file)) file (λ q. omega arith))
    by (no ne) = inl (other_mark 11 network_mark (network_size (count_in file)) file ne)

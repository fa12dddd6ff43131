-- The parts that are lent are as long as the file says.
use mathlib.Core.Path.{sym, ◌∙◌}
use lib.Seq.{length-take-le}
use Rattle.packed_arcs.specs.Entries.{zero_list}
use Rattle.packed_arcs.proofs.LentParts.{zero_list_length, back_within, back_length}
use Rattle.helper.proofs.FoundAnnotation.{few_arcs, few_vertices, gathered_again}
use Rattle.helper.proofs.writing.write_annotation.Goals as goal

pub slice_bounds-records-end : goal.slice_bounds-records-end
slice_bounds-records-end c = few_arcs c.args.net.now c.requires.accepted_file c.count-m.result c.count-m.ensures

pub slice_bounds-gather-end : goal.slice_bounds-gather-end
slice_bounds-gather-end c = sym (zero_list_length c.count-m.result 4096 (few_arcs c.args.net.now c.requires.accepted_file c.count-m.result c.count-m.ensures))

pub slice_bounds-records-end-2 : goal.slice_bounds-records-end-2
slice_bounds-records-end-2 c =
    let few = few_arcs c.args.net.now c.requires.accepted_file c.count-m.result c.count-m.ensures in
    back_within c.count-m.result (zero_list 4096) c.gather.new.records (gathered_again c.args.net.now c.gather.new.records c.count-m.result 4096 few c.count-m.ensures c.gather.ensures).0

pub slice_bounds-write_solution-end : goal.slice_bounds-write_solution-end
slice_bounds-write_solution-end c =
    let few = few_arcs c.args.net.now c.requires.accepted_file c.count-m.result c.count-m.ensures in
    back_length c.count-m.result (zero_list 4096) c.gather.new.records (gathered_again c.args.net.now c.gather.new.records c.count-m.result 4096 few c.count-m.ensures c.gather.ensures).0

pub slice_bounds-numbers-end : goal.slice_bounds-numbers-end
slice_bounds-numbers-end c = few_vertices c.args.net.now c.requires.accepted_file c.vertices-n.result c.vertices-n.ensures

pub slice_bounds-write_solution-end-2 : goal.slice_bounds-write_solution-end-2
slice_bounds-write_solution-end-2 c = sym (length-take-le c.vertices-n.result _ (few_vertices c.args.net.now c.requires.accepted_file c.vertices-n.result c.vertices-n.ensures))

pub slice_bounds-amounts-end : goal.slice_bounds-amounts-end
slice_bounds-amounts-end c = few_arcs c.args.net.now c.requires.accepted_file c.count-m.result c.count-m.ensures

pub slice_bounds-write_solution-end-3 : goal.slice_bounds-write_solution-end-3
slice_bounds-write_solution-end-3 c = sym (zero_list_length c.count-m.result 4096 (few_arcs c.args.net.now c.requires.accepted_file c.count-m.result c.count-m.ensures))

pub write_solution-requires : goal.write_solution-requires
write_solution-requires c =
    let few = few_arcs c.args.net.now c.requires.accepted_file c.count-m.result c.count-m.ensures in
    let narrow = few_vertices c.args.net.now c.requires.accepted_file c.vertices-n.result c.vertices-n.ensures in
    record {
      accepted_file = c.requires.accepted_file;
      records_value = (gathered_again c.args.net.now c.gather.new.records c.count-m.result 4096 few c.count-m.ensures c.gather.ensures).1;
      numbers_len = (length-take-le c.vertices-n.result _ narrow ∙ c.vertices-n.ensures, zero_list_length c.count-m.result 4096 few ∙ c.count-m.ensures);
      net_in_bounds = c.requires.net_in_bounds;
    }

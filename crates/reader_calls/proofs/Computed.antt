-- What a text's reading and a road's admission compute with, each once: an example that is read, or admitted, by computation names it.
use lib.Ieee.{of_bits, add, sub, mul, div, le, lt, neg}
use Rattle.reader_schema.specs.Schema as cells-schema
use Rattle.reader_cells.specs.Cells as cells-cells
use Rattle.reader_lines.specs.NamesLine as rows-namesline
use Rattle.reader_lines.specs.ValuesLine as rows-valuesline
use Rattle.reader_store.specs.Layout as store-layout
use Rattle.reader_store.specs.Parents as store-parents
use Rattle.reader_store.specs.Keep as store-keep
use Rattle.records_lent.specs.Lists as records-lists
use Rattle.admission_order.specs.Order as structure-order
use Rattle.admission_bounds.specs.Bounds as limits-bounds
use Rattle.admission.specs.Limits as limits-limits
use Rattle.line_samples.specs.Samples as reference-line-spiral
use Rattle.reader_calls.specs.Reading.{lines_from, table_at, counted_progress, tables_from, zeros, zero_numbers}

-- the tables of a text, into zeroed slices
unfoldable pub reading : Unit {0}
unfolding cells-schema.names cells-schema.name_of cells-schema.limits cells-schema.limit_of cells-schema.words cells-schema.word_of cells-schema.firsts cells-schema.counts cells-schema.first_of cells-schema.word_count cells-schema.kinds cells-schema.column_kind cells-schema.seek cells-schema.place_of cells-schema.listed_place cells-cells.digit_of cells-cells.name_from cells-cells.name_span cells-cells.decimal_from cells-cells.natural_at cells-cells.whole_at cells-cells.hex_from cells-cells.hex_at cells-cells.listed_at cells-cells.cell_at rows-namesline.column_at rows-namesline.names_from rows-namesline.head_at rows-valuesline.stop_of rows-valuesline.values_read rows-valuesline.values_at store-layout.number_lines store-layout.word_lines store-layout.number_columns store-layout.word_columns store-layout.count_place store-layout.rule_of store-layout.ranges_of store-layout.code_of store-layout.one_more store-layout.cells_kept store-layout.numbers_kept store-layout.codes_kept store-layout.wants_kept store-layout.count_kept store-parents.ranked_among store-parents.side_word store-parents.lane_turn store-parents.lane_among store-parents.lane_index store-parents.mark_lane store-parents.mark_index store-parents.term_of store-parents.index_of store-parents.range_of store-parents.parent_of store-keep.added store-keep.in_order store-keep.under_words store-keep.under_progress store-keep.strips_kept store-keep.strip_progress store-keep.mark_put store-keep.own_words store-keep.ruled_words store-keep.ruled_progress store-keep.kept_words store-keep.kept_progress lines_from table_at counted_progress tables_from zeros zero_numbers
reading = tt

-- a road's order and its limits
unfoldable pub admitting : Unit {0}
unfolding records-lists.tabulate records-lists.all_below reference-line-spiral.goes_on reference-line-spiral.steps_from reference-line-spiral.spiral_steps reference-line-spiral.sample_count reference-line-spiral.samples_before reference-line-spiral.samples_needed structure-order.never_fall structure-order.rise_strictly structure-order.apart structure-order.cubics_in_order structure-order.lane_in_order structure-order.section_in_order structure-order.profiles_in_order structure-order.strip_in_order structure-order.marks_in_order structure-order.ordered limits-bounds.reach_at limits-bounds.bound_of limits-bounds.slope_bound_of limits-bounds.cubic_within limits-bounds.cubics_within limits-bounds.slopes_within limits-bounds.greatest limits-bounds.greatest_bound limits-limits.shape_limited limits-limits.geom_limited limits-limits.section_extent limits-limits.height_limited limits-limits.heights_limited limits-limits.lane_limited limits-limits.section_limited limits-limits.profile_limited limits-limits.strip_limited limits-limits.mark_limited limits-limits.marks_limited limits-limits.limited of_bits add sub mul div le lt neg
admitting = tt

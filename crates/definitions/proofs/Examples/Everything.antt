-- Opens every definition, so that closed examples compute: `unfolding everything` opens what its line names.
use Rattle.definitions.specs.Lists.{every, at_least_one, select, last_passes, concat_map, up_from}
use Rattle.definitions.specs.Lists.{first_where, map_option, occurrences, sum_of, place_of, same, precedes, records}
use Rattle.definitions.specs.Lists.{padded}
use Rattle.definitions.specs.Faults.{judge, and_then, answer_left}
use Rattle.definitions.specs.Numerals.{is_digit, is_numeral, value_of, numeral_within, numeral}
use Rattle.definitions.specs.Lines.{skip_spaces, digits_field, field_of, field_text, form_of, is_blank}
use Rattle.definitions.specs.Lines.{numbers_of, fields_of, with_letter, line_of, in_ranges, in_fixed_ranges}
use Rattle.definitions.specs.Lines.{line_text, lines_of, ends_in_line_feed, whole_lines}
use Rattle.definitions.specs.Reading.{line_tests, line_read, read_from, read_text}
use Rattle.definitions.specs.BookLines.{book_line, header_in, header_of, root_count, is_phone, member_in}
use Rattle.definitions.specs.BookLines.{members_of, node_line_in, node_lines_of, nodes_of, root_in, roots_of}
use Rattle.definitions.specs.BookLines.{children_of, boundary_in, boundaries_of, is_boundary, plain_for}
use Rattle.definitions.specs.BookLines.{plain_given, plain_words, next_place, root_for, root_given}
use Rattle.definitions.specs.BookLines.{root_words}
use Rattle.definitions.specs.BookReading.{book_follows, within_header, comes_before, book_in_order}
use Rattle.definitions.specs.BookReading.{children_greater, wide_enough, book_tests, orphans, is_line_of}
use Rattle.definitions.specs.BookReading.{line_where, judge_names, book_kind, read_book, left_out, left_out_to}
use Rattle.definitions.specs.BookReading.{book_full, book_enough, plains_plain, is_chained, judge_book}
use Rattle.definitions.specs.Tables.{phones_of_class, class_sets, book_of, node_words, tables_of, no_tables}
use Rattle.definitions.specs.Tables.{tables_left, node_of, tree_node, node_records, tables_book, root_of}
use Rattle.definitions.specs.Tables.{book_in, contents_of, tables_contents, tree_phone, roots_in_force}
use Rattle.definitions.specs.ForeignTables.{header_known, question_known, leaf_known, nodes_known}
use Rattle.definitions.specs.ForeignTables.{holds_only, node_table_known, class_table_known, root_table_known}
use Rattle.definitions.specs.ForeignTables.{named_once, tables_known, roots_of_phone, phone_known}
use Rattle.definitions.specs.ForeignTables.{roots_known, plain_known, plains_known, plain_table_known}
use Rattle.definitions.specs.Lookup.{model_at, answers, walk, reached, lookup_known, is_context}
use Rattle.definitions.specs.Lookup.{leaf_lookup, leaf_lookup_in_table}
use Rattle.definitions.specs.PhoneSets.{has, alone, all_phones, without, set_of}
use Rattle.definitions.specs.Matrices.{matrix_words, matrix_size, matrix_record, root_matrix, yes_side}
use Rattle.definitions.specs.Matrices.{no_side, valid, meet, shift, start_cut, ends_here}
use Rattle.definitions.specs.MatrixLists.{insert_matrix, added, gather, holds_some, same_list, meet_lists}
use Rattle.definitions.specs.MatrixLists.{shift_list, root_list, start_list, list_ends, all_yes, yes_list}
use Rattle.definitions.specs.MatrixLists.{each_no, no_list, list_record}
use Rattle.definitions.specs.Combinations.{leaves_below, is_before, insert_leaf, ascending, leaves_of}
use Rattle.definitions.specs.Combinations.{choose, combinations_of, combinations, combination_words}
use Rattle.definitions.specs.Combinations.{combination_room, combine, combination_space}
use Rattle.definitions.specs.Arcs.{first_state, last_state, arc_words, arc_of, arcs_in}
use Rattle.definitions.specs.Metastates.{same_metastate, metastate_words, starts_from, followers_from}
use Rattle.definitions.specs.Metastates.{combination_of, phone_of, starts, followers, models_of, may_end}
use Rattle.definitions.specs.Growing.{place_from, add_arc, add_element, add_both, grown_in, perform}
use Rattle.definitions.specs.Growing.{perform_all, expand, turns_from, grow}
use Rattle.definitions.specs.Connecting.{own_arcs, final_arcs, start_events, turn_events, arc_into}
use Rattle.definitions.specs.Building.{room_in, build, counts_in, buffers_of, no_buffers, buffers_left}
use Rattle.definitions.specs.Paths.{leads, accepting, without_zeros, models_carried, phones_carried}
use Rattle.definitions.specs.Paths.{final_last}
use Rattle.definitions.specs.Leaving.{part_of, leaving, part_handed, part_words}
use Rattle.definitions.specs.NetworkText.{network_line, counts_in_line, counts_of, arc_in_line, arcs_of}
use Rattle.definitions.specs.NetworkText.{is_state, network_follows, within_counts, network_in_order}
use Rattle.definitions.specs.NetworkText.{network_tests, network_complete, network_kind, read_network}
use Rattle.definitions.specs.NetworkText.{arcs_left, arc_known, never_descending, network_known}
use Rattle.definitions.specs.NetworkText.{line_of_counts, line_of_arc, network_text, write_network}
use Rattle.definitions.specs.TreesGive.{windows, around, contexts_within, root_line, node_line, put_in_class}
use Rattle.definitions.specs.TreesGive.{answers_by_lines, walk_by_lines, reached_by_lines, model_given}
use Rattle.definitions.specs.TreesGive.{together, models_along, trees_give, silent_ends, trees_phone}
use Rattle.definitions.specs.Transcription.{model_of, transcription, questions_at, question_sum, transcribed}
use Rattle.definitions.specs.Transcription.{is_utterance, transcribe, models_left}
use Rattle.definitions.specs.QuestionsPut.{questions_met, questions_put}
use Rattle.definitions.specs.BookBuilding.{build_read, build_book, tables_after, buffers_after}
use Rattle.definitions.specs.Said.{said_of, progress_of}
use Rattle.definitions.specs.Program.{text_of_built, network_of, refusal_text, printed, program}
use Rattle.definitions.specs.BookText.{members_from, lines_of_nodes, boundaries_from, roots_listed}
use Rattle.definitions.specs.BookText.{lines_of_book, book_line_for, text_of_book}
use Rattle.definitions.specs.PlainForm.{tree_below, trees_of, sets_in, first_uses, sets_of, size_of}
use Rattle.definitions.specs.PlainForm.{nodes_from, all_nodes, roots_from, trees_there, numbered}
use Rattle.definitions.specs.PlainForm.{plain_contents, header_for, plain_lines, plain_text, write_plain}
use Rattle.definitions.specs.Meeting.{columns_met, met_words}
use Rattle.definitions.specs.WordBooks.{word_line, last_line, comes_next, word_count, phones_said, words_of}
use Rattle.definitions.specs.WordBooks.{word_words, word_kind, read_words, words_left, word_in, words_in}
use Rattle.definitions.specs.WordBooks.{word_known, words_known}
use Rattle.definitions.specs.Joining.{is_word, spoken, spoken_to, opening, between, within, outside, steps}
use Rattle.definitions.specs.Joining.{joined_words, same_joined, may_enter, moves_along, moves, joining}
use Rattle.definitions.specs.Joining.{join_in, join_room, join, join_left}

unfoldable pub everything : Unit {0}
unfolding every at_least_one first_where map_option select last_passes concat_map up_from occurrences same precedes
    records padded judge and_then answer_left is_digit is_numeral value_of numeral_within numeral skip_spaces digits_field
    field_of field_text form_of is_blank numbers_of fields_of with_letter line_of in_ranges in_fixed_ranges line_text
    lines_of ends_in_line_feed whole_lines line_tests line_read read_from read_text book_line header_in header_of
    root_count is_phone member_in members_of node_line_in node_lines_of nodes_of root_in roots_of children_of book_follows
    within_header comes_before book_in_order children_greater wide_enough book_tests book_full orphans is_line_of
    line_where judge_names book_kind read_book phones_of_class class_sets book_of book_in contents_of node_words tables_of
    no_tables tables_left node_of tree_node node_records tables_book tables_contents header_known question_known
    leaf_known nodes_known holds_only node_table_known class_table_known root_table_known named_once tables_known model_at
    answers walk reached lookup_known is_context leaf_lookup leaf_lookup_in_table has alone all_phones without set_of
    matrix_words root_matrix yes_side no_side valid meet shift start_cut ends_here insert_matrix
    added gather holds_some same_list meet_lists shift_list root_list start_list list_ends all_yes yes_list each_no
    no_list list_record leaves_below is_before insert_leaf
    ascending root_of leaves_of choose combinations_of combinations combination_words combination_room combine
    combination_space first_state last_state arc_words arc_of arcs_in same_metastate metastate_words starts_from
    followers_from combination_of phone_of starts followers models_of may_end own_arcs final_arcs start_events
    turn_events arc_into place_from add_arc add_both perform perform_all expand turns_from room_in build counts_in
    buffers_of no_buffers buffers_left leads accepting without_zeros models_carried phones_carried part_of leaving
    part_handed part_words network_line counts_in_line counts_of arc_in_line arcs_of is_state network_follows
    within_counts network_in_order network_tests network_complete network_kind read_network arcs_left arc_known
    never_descending network_known line_of_counts line_of_arc network_text write_network windows around contexts_within
    root_line node_line put_in_class answers_by_lines walk_by_lines reached_by_lines model_given together models_along
    trees_give silent_ends model_of transcription is_utterance transcribe build_read build_book tables_after
    buffers_after text_of_built network_of refusal_text printed program add_element grow grown_in final_last
    matrix_size matrix_record said_of progress_of members_from lines_of_nodes boundaries_from roots_listed lines_of_book
    book_line_for text_of_book tree_below trees_of sets_in first_uses sets_of place_of size_of nodes_from all_nodes
    roots_from trees_there numbered plain_contents header_for plain_lines plain_text write_plain boundary_in
    boundaries_of is_boundary plain_for plain_given plain_words next_place root_for root_given root_words left_out
    left_out_to book_enough plains_plain is_chained judge_book roots_of_phone phone_known roots_known plain_known
    plains_known plain_table_known tree_phone roots_in_force trees_phone columns_met met_words word_line last_line
    comes_next word_count phones_said words_of word_words word_kind read_words words_left word_in words_in word_known
    words_known is_word spoken spoken_to opening between within outside steps joined_words same_joined may_enter
    moves_along moves joining join_in join_room join join_left sum_of questions_at question_sum transcribed
    models_left questions_met questions_put
everything = tt

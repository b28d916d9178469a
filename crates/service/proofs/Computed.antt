-- What the worked cases share: all definitions that they compute with, under one name (a case says `unfolding computed`), and
-- the form of a row.
use Prim.Native.Nat.{ℕ}
use mathlib.Core.List.{List, ◌++◌}
use lib.ListN.{length, drop, replicate}
use Rattle.reading.specs.Dialects.{groups_in, kinds_in, purposes_in}
use Rattle.reading.specs.Read.{and_then, byte_at, below}
use Rattle.reading.specs.Types.{channel, shape, groups_then_kind_in, type_at_in}
use Rattle.reading.specs.Syntax.{components}
use Rattle.reading.specs.Forms.{member, limited, new_form_in, input_form_in, output_form, fresh_group_in, group_form_in, purpose_in, component_form_in, process_form_in, process_at_in, system_form_in, system_at_in}
use Rattle.reading.specs.System.{process_from, read_process_in, component, system_from, read_system_in, free_types_in, header_in, to_its_end, read_sheet_in, sheet_of_in}
use Rattle.needs.proofs.Computed.{need_computed}
use Rattle.inference.specs.Lists.{every, any, only, gather, rising}
use Rattle.inference.specs.Counts.{◌⊕◌, at_most, is_zero, repeatedly, count_number}
use Rattle.inference.specs.Acts.{component_at, type_of, locate, located, acts, acts_of, sheet_acts}
use Rattle.inference.specs.Classes.{all_in, same_set, shares}
use Rattle.inference.specs.Typing.{is_known, of_shape, of_channel, is_type, in_scope, on_channel, carries_object, in_path}
use Rattle.inference.specs.Needs.{need_on, need_of, is_read, is_write, is_access, disclosures, weigh, total, disclosed}
use Rattle.inference.specs.Interface.{disclosures_of, entry_of, is_empty, holds_any, entries_of, interface, flagged, permissions, required_of, count_in, needed_by, needed, bit, map_of, disclosure_bytes, list_bytes, entry_bytes, interface_bytes}
use Rattle.policy.specs.Syntax.{has_bit, bit_at, alone, heads_of, heads}
use Rattle.policy.specs.Reading.{as_eleven, must, two_bytes, is_count, item_at, read_list, counted_list, read_purposes, maps_in, read_permissions_in, children, read_node_in, read_trees_in, read_policy_in}
use Rattle.policy.specs.WellFormed.{distinct, kinds_distinct, same_list, same_permissions, agree, met_from, met_in, is_new, is_same, fault_of, node_fault, first_fault, nodes_fault, disclosed_to, groups_at, keeps_within, all_keep, fenced}
use Rattle.fit.specs.Grants.{reached_among, reached, tree_for, reached_in, reached_for, only_for, for_purpose, granting_to, given_by, flag_granted, stored_count, listed, joined, count_granted}
use Rattle.fit.specs.Satisfies.{is_tree, has_tree, path_reached, verdict_of, covering, holds, covered}
use Rattle.service.specs.Questions.{passed, failed, ask, after_reading, typed, well_formed, satisfied, judged_from, judged}
use Rattle.service.specs.Check.{Outcome, fitting, interface_for, written, checked}

unfoldable pub computed : Unit {0}
unfolding groups_in kinds_in purposes_in and_then byte_at below channel shape groups_then_kind_in type_at_in components member limited new_form_in input_form_in output_form fresh_group_in group_form_in purpose_in component_form_in process_form_in process_at_in system_form_in system_at_in process_from read_process_in component system_from read_system_in free_types_in header_in to_its_end read_sheet_in sheet_of_in every any only gather rising ◌⊕◌ at_most is_zero repeatedly count_number component_at type_of locate located acts acts_of sheet_acts is_known of_shape of_channel is_type in_scope on_channel carries_object in_path need_computed need_on need_of is_read is_write is_access disclosures weigh total disclosed disclosures_of entry_of is_empty holds_any entries_of interface flagged permissions required_of count_in all_in same_set shares needed_by needed bit map_of disclosure_bytes list_bytes entry_bytes interface_bytes has_bit bit_at alone heads_of heads as_eleven must two_bytes is_count item_at read_list counted_list read_purposes maps_in read_permissions_in children read_node_in read_trees_in read_policy_in distinct kinds_distinct same_list same_permissions agree met_from met_in is_new is_same fault_of node_fault first_fault nodes_fault disclosed_to groups_at keeps_within all_keep fenced reached_among reached tree_for reached_in reached_for only_for for_purpose granting_to given_by flag_granted stored_count listed joined count_granted is_tree has_tree path_reached verdict_of covering holds covered ask after_reading typed well_formed satisfied judged_from judged fitting interface_for written checked
computed = tt

-- What a row wants: the bytes written, or the number of the question that fails.
pub data Wanted : Type 0 where
  writes : List ℕ → Wanted
  refuses : ℕ → Wanted

pub data Row : Type 0 where
  -- sheet, charter, what is wanted
  row : List ℕ → List ℕ → Wanted → Row

-- thirty-two bytes that a call is lent
abbrev pub output : List ℕ
output = replicate 32 0xAA

abbrev pub got : Row → Outcome
got (row sheet charter want) = checked sheet charter output

abbrev pub outcome : Wanted → Outcome
outcome (writes bytes) = record { answer = passed (length bytes); lent = bytes ++ drop (length bytes) output }
outcome (refuses number) = record { answer = failed number; lent = output }

abbrev pub wanted : Row → Outcome
wanted (row sheet charter want) = outcome want

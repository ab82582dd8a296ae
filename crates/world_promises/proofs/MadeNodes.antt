-- The nodes of a script that is made of a number, behind the line that gives each its key.
use Rattle.std.proofs.Common.{◌≡◌, ℕ, codes, refl}
use Rattle.std.specs.Str.{chars, is_utf8}
use Rattle.std.specs.Str.Lossy.{utf8_valid_len}
use lib.Utf8.{encode}
use Rattle.wire_base.specs.Texts.{is_text}
use Rattle.nine.specs.Messages.{frame}
use Rattle.nine.specs.Decoding.{attach_at, open_at, request_of, t_body_at, t_reading, version_at, walk_at, write_at}
use Rattle.wire_base.specs.Readers.{block, listed, string}
use Rattle.attr_tuples.specs.Grammar.{attr_of, tuple_of, words_from}
use Rattle.attr_tuples.specs.Lines.{line_len}
use Rattle.attr_tuples.specs.Matching.{value_of}
use Rattle.attr_tuples.specs.Words.{first_word, gap_len}
use Rattle.file_tree.specs.Tree.{step}
use Rattle.file_tree.specs.Calls.{attach_fault, fid_fault, open_fault, walk_fault}
use Rattle.key_lists.specs.CtlLines.{line_over, read_line}
use Rattle.key_lists.specs.Lists.{add_fault, no_keys}
use Rattle.talks.specs.Standings.{untouched}
use Rattle.agent_history.specs.Requests.{after, after_frame, body_to, granted, refusal, reply_of}
use Rattle.agent_history.specs.Histories.{deeds}
use Rattle.world_history.specs.Driving.{drive, new_node, told}
use Rattle.world_promises.proofs.SightLaws.{sight}
use Rattle.world_promises.proofs.DrivenSeats.{unseated}
use Rattle.world_promises.proofs.SkTalks.{ann_entry, one_key, srv_entry}

pub new_sees : (m : ℕ) → sight m (deeds new_node) ≡ unseated 0 no_keys untouched
unfolding drive frame request_of t_reading t_body_at version_at attach_at walk_at open_at string block listed granted refusal after after_frame body_to reply_of attach_fault walk_fault open_fault fid_fault step is_text is_utf8 chars encode utf8_valid_len
new_sees m = refl

pub ann_sees : (m : ℕ) → sight m (deeds (told (codes "key proto=p9sk1 dom=x user=ann !password=annpass") new_node)) ≡ unseated 0 (one_key ann_entry) untouched
unfolding drive frame request_of t_reading t_body_at version_at attach_at walk_at open_at write_at string block listed granted refusal after after_frame body_to reply_of attach_fault walk_fault open_fault fid_fault step is_text is_utf8 chars encode utf8_valid_len tuple_of words_from first_word gap_len attr_of value_of line_len line_over read_line add_fault
ann_sees m = refl

pub srv_sees : (m : ℕ) → sight m (deeds (told (codes "key proto=p9sk1 dom=x user=srv !password=srvpass") new_node)) ≡ unseated 0 (one_key srv_entry) untouched
unfolding drive frame request_of t_reading t_body_at version_at attach_at walk_at open_at write_at string block listed granted refusal after after_frame body_to reply_of attach_fault walk_fault open_fault fid_fault step is_text is_utf8 chars encode utf8_valid_len tuple_of words_from first_word gap_len attr_of value_of line_len line_over read_line add_fault
srv_sees m = refl

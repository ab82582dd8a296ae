-- Examples of the definitions, computed. They are no part of what is claimed of the product. That reads wait and what
-- settles them is written down here as deeds, whatever file they are of, and all that follows of it is computed; reads of
-- rpc stand with conversations in another file.
use Rattle.std.proofs.Common.{◌≡◌, ℕ, List, [], ◌∷◌, Err, Some, None, false, refl}
use Rattle.std.specs.Prelude.{codes}
use Rattle.nine.specs.declared.message.TBody.TheVariants as t
use Rattle.nine.specs.declared.message.RBody.TheVariants as r
use Rattle.nine.specs.declared.message.RMsg.{RMsg}
use Rattle.nine.specs.declared.message.RBody.{RBody}
use Rattle.nine.specs.Messages.{r_frame}
use Rattle.file_tree.specs.declared.tree.Node.TheVariants.{Log}
use Rattle.file_tree.specs.Calls.{fid_fault}
use Rattle.agent_history.specs.declared.event.Event.TheVariants.{Hang, Take, TakeAsk}
use Rattle.agent_history.specs.declared.event.StepAnswer.TheVariants.{Reply, NoReply, Gone, Stopped}
use Rattle.agent_history.specs.Deeds.{Deed, OfFids, OfReplies, OfConnection, Halted, Versioned, Walked, Opened, Answered, Awaited, Settled, Taken, Entered, Hung, fid_of, text_of, is_halted}
use Rattle.agent_history.specs.Replies.{waits, untaken, swept}
use Rattle.agent_history.specs.Requests.{Call, refusal, after, granted_body, replied, reply_of}
use Rattle.agent_history.specs.Histories.{most_events, answer_after, does, after_event}

-- connection 1 has fid 7 open on log, and two of its reads of it wait, the first under tag 5 and the second under tag 6;
-- connection 2 has one that waits under tag 5 too
abbrev opened : List Deed
opened =
    OfFids 2 (Opened 3 0) ∷ OfFids 2 (Walked 3 Log) ∷ OfFids 2 (Versioned (Some 8216)) ∷ OfConnection 2 Entered
    ∷ OfFids 1 (Opened 7 0) ∷ OfFids 1 (Walked 7 Log) ∷ OfFids 1 (Versioned (Some 8216)) ∷ OfConnection 1 Entered ∷ []

abbrev waiting : List Deed
waiting = OfReplies 2 (Awaited 5 3 100) ∷ OfReplies 1 (Awaited 6 7 100) ∷ OfReplies 1 (Awaited 5 7 100) ∷ opened

-- a request of a connection under a tag
abbrev call : ℕ → ℕ → Call
call conn tag = record { conn = conn; tag = tag; word = [] }

abbrev under : ℕ → RBody → RMsg
under tag body = record { tag = tag; body = body }

-- ---- a read that waits has no reply, and is settled by an event of another connection

not_yet : untaken waiting 1 ≡ []
not_yet = refl

-- a write of connection 2 settles the first read of connection 1
abbrev by_another : List Deed
by_another = swept (OfReplies 2 (Answered 9 (r.Write 4)) ∷ OfReplies 1 (Settled 5 (r.Read (codes "line"))) ∷ waiting)

settled_there : untaken by_another 1 ≡ under 5 (r.Read (codes "line")) ∷ []
settled_there = refl

answered_here : untaken by_another 2 ≡ under 9 (r.Write 4) ∷ []
answered_here = refl

still_waiting : waits by_another 1 ≡ record { tag = 6; fid = 7; count = 100; reply = None } ∷ []
still_waiting = refl

taken_there : answer_after by_another (Take 1) ≡ (Reply, r_frame (under 5 (r.Read (codes "line"))))
taken_there = refl

taken_once : answer_after (does by_another (Take 1)) (Take 1) ≡ (NoReply, [])
taken_once = refl

-- ---- several replies of one event: its own comes first, and those to reads behind it in the order in which they came

-- an event of connection 1 settles the second read before the first, and the one of connection 2
abbrev several : List Deed
several = swept (
    OfReplies 1 (Answered 8 (r.Write 1))
    ∷ OfReplies 2 (Settled 5 (r.Read (codes "c")))
    ∷ OfReplies 1 (Settled 5 (r.Read (codes "a")))
    ∷ OfReplies 1 (Settled 6 (r.Read (codes "b")))
    ∷ waiting)

in_order : untaken several 1 ≡ under 8 (r.Write 1) ∷ under 5 (r.Read (codes "a")) ∷ under 6 (r.Read (codes "b")) ∷ []
in_order = refl

on_the_other : untaken several 2 ≡ under 5 (r.Read (codes "c")) ∷ []
on_the_other = refl

-- ---- a read that was flushed gets no reply, whatever settles it later

abbrev flushed : List Deed
unfolding after
flushed = swept (OfReplies 1 (Answered 4 r.Flush) ∷ after waiting (call 1 4) (t.Flush 5))

abbrev flushed_settled : List Deed
flushed_settled = swept (OfReplies 1 (Settled 5 (r.Read (codes "line"))) ∷ flushed)

never_comes : untaken flushed_settled 1 ≡ under 4 r.Flush ∷ []
unfolding flushed
never_comes = refl

the_tag_is_free : waits flushed 1 ≡ record { tag = 6; fid = 7; count = 100; reply = None } ∷ []
unfolding flushed
the_tag_is_free = refl

others_wait_on : waits flushed 2 ≡ record { tag = 5; fid = 3; count = 100; reply = None } ∷ []
unfolding flushed
others_wait_on = refl

-- ---- a read that waits on a fid that is given up

abbrev clunked : List Deed
unfolding after reply_of
clunked = swept (replied (call 1 8) (reply_of waiting (call 1 8) (t.Clunk 7)) (after waiting (call 1 8) (t.Clunk 7)))

told_unknown : untaken clunked 1 ≡ under 8 r.Clunk ∷ under 5 (r.Error (codes "unknown fid")) ∷ under 6 (r.Error (codes "unknown fid")) ∷ []
unfolding clunked
told_unknown = refl

none_told_elsewhere : untaken clunked 2 ≡ []
unfolding clunked
none_told_elsewhere = refl

none_waits : waits clunked 1 ≡ []
unfolding clunked
none_waits = refl

-- ---- a tag that is taken by a read that waits

same_tag : granted_body waiting (call 1 6) (t.Stat 7) ≡ Err (codes "duplicate tag")
same_tag = refl

-- the tests of the type come behind it
same_tag_first : granted_body waiting (call 1 5) (t.Clunk 99) ≡ Err (codes "duplicate tag")
same_tag_first = refl

no_version_before : granted_body (OfReplies 1 (Awaited 5 7 100) ∷ []) (call 1 5) (t.Clunk 99) ≡ Err (codes "no version")
no_version_before = refl

other_tag : granted_body waiting (call 1 4) (t.Clunk 99) ≡ Err (codes "unknown fid")
unfolding refusal fid_fault
other_tag = refl

-- ---- a version, a hang and a stop drop reads that wait without a reply

dropped_by_version : untaken (swept (OfReplies 1 (Settled 5 (r.Read [])) ∷ OfFids 1 (Versioned None) ∷ waiting)) 1 ≡ []
dropped_by_version = refl

dropped_by_hang : waits (OfConnection 1 Hung ∷ waiting) 1 ≡ []
dropped_by_hang = refl

gone : answer_after (OfConnection 1 Hung ∷ by_another) (Take 1) ≡ (Gone, [])
gone = refl

dropped_by_stop : waits (Halted ∷ waiting) 2 ≡ []
dropped_by_stop = refl

-- the last event that is carried out stops the agent, and nothing is done behind it
last_event : after_event most_events (Hang 1) waiting ≡ Halted ∷ OfConnection 1 Hung ∷ waiting
last_event = refl

the_one_before : is_halted (after_event 1125899906842623 (Hang 1) waiting) ≡ false
the_one_before = refl

stopped : answer_after (Halted ∷ waiting) TakeAsk ≡ (Stopped, [])
stopped = refl

nothing_behind : after_event 4 (Hang 1) (Halted ∷ waiting) ≡ Halted ∷ waiting
nothing_behind = refl

-- ---- a deed that finds nothing does nothing

nothing_taken : untaken (OfReplies 1 (Answered 9 r.Flush) ∷ OfReplies 1 Taken ∷ []) 1 ≡ under 9 r.Flush ∷ []
nothing_taken = refl

nothing_settled : untaken (swept (OfReplies 1 (Settled 5 (r.Read [])) ∷ [])) 1 ≡ []
nothing_settled = refl

no_fid_opened : fid_of (OfFids 1 (Opened 7 0) ∷ []) 1 7 ≡ None
no_fid_opened = refl

no_text_behind_a_stop : text_of (Halted ∷ opened) 1 7 ≡ []
no_text_behind_a_stop = refl

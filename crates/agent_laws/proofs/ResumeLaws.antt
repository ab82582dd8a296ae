-- Conversations that go on, and such that end with the file of their question or their fid, do the same of two lists of deeds that
-- are shown alike; and so do reads and writes of rpc.
use Rattle.std.proofs.Common.{◌≡◌, ℕ, zero, suc, List, [], ◌∷◌, length, map, Bool, true, false, cond, eqb, not, Option, Some, None, refl, sym, ap, ◌∙◌}
use Rattle.std.specs.List.{filter}
use Rattle.file_tree.specs.declared.tree.Node.{Node}
use Rattle.file_tree.specs.declared.tree.Node.TheVariants.{Root, Factotum, Rpc, Ctl, Confirm, Needkey, Proto, Log}
use Rattle.roles.specs.declared.need.Need.{Need}
use Rattle.roles.specs.declared.need.Need.TheVariants as n
use Rattle.roles.specs.Talks.{heard, offered, picked, roomless, unheard, Call as Move}
use Rattle.talks.specs.Protocols.{answers, needs}
use Rattle.talks.specs.declared.answer.RpcAnswer.{RpcAnswer}
use Rattle.talks.specs.declared.answer.RpcAnswer.TheVariants as a
use Rattle.side_files.specs.Calls as side
use Rattle.side_files.specs.Lines.{Nothing, TooLong, First, Found as LineFound, found as line_for}
use Rattle.talks.specs.declared.said.Said.{Said}
use Rattle.talks.specs.Answers.{move_answer}
use Rattle.talks.specs.Calls as calls
use Rattle.talks.specs.Lines.{log_lines}
use Rattle.talks.specs.Calls.{Found, Chosen, AsksConsent, AsksKey, Denied, NoneServes, Offered, Picked}
use Rattle.talks.specs.Standings.{Begun, Phase, Resting, Waiting, Seeking, OnConfirm, OnNeedkey, OnServer, Kept, Standing, finds, is_for, made, need_in, phase_after, sought_if, standing, told_of_key, then_stands, with_key}
use Rattle.agent_history.specs.Deeds.{Deed, OfTalk, OfLog, holder_of, is_debug, keys_of}
use Rattle.agent_history.specs.Replies.{Wait, reader, waits}
use Rattle.agent_history.specs.SideFiles.{all_served, line_read, lines_in, serve_first, serve_read, serve_reads, served, served_to}
use Rattle.agent_history.specs.Conversations.{asking, delivered, logged, met, prompting, questions, raising, seeking, seeking_all, sought_once, standing_of, talk, then_logged, then_raised, then_sought, sought as sought_by}
use Rattle.agent_history.specs.Requests.{is_resting}
use Rattle.agent_laws.proofs.SizedLaws.{Serves}
use Rattle.agent_laws.proofs.KindLaws.{same_number}
use Rattle.agent_laws.proofs.AlongLaws.{Along, along_delivered, along_met, answers_alike, kept_numbers, numbered, numbers}

-- ---- a request that doesn't rest goes on to no rest

pub moved_up : (need : Need) (answer : RpcAnswer) → is_resting (phase_after need answer) ≡ false
moved_up n.Nothing answer = refl
moved_up (n.Key template) answer = refl
moved_up (n.Offers template) answer = refl
moved_up (n.Pick templates) answer = refl
moved_up (n.Exchange request shape) answer = refl

made_up : (s : Standing) (move : Move) (begun : Option Begun) → is_resting s.phase ≡ false → is_resting (made s move begun).phase ≡ false
made_up s move None e = e
made_up s move (Some b) e = moved_up (needs b.start (move ∷ b.moves)) (move_answer a.Ok b.key (answers b.start b.moves move))

key_up : (s : Standing) (key : _) (begun : Option Begun) → is_resting s.phase ≡ false → is_resting (with_key s key begun).phase ≡ false
key_up s key None e = e
key_up s key (Some b) e = moved_up (needs b.start (told_of_key key ∷ b.moves)) (move_answer a.Ok (Some key) (answers b.start b.moves (told_of_key key)))

sought_up : (s : Standing) (came : Found) (x : Bool) → is_resting s.phase ≡ false → is_resting (sought_if x s came).phase ≡ false
sought_up s came false e = e
sought_up s (Chosen key) true e = key_up s key s.begun e
sought_up s (AsksConsent key) true e = refl
sought_up s AsksKey true e = refl
sought_up s Denied true e = refl
sought_up s NoneServes true e = refl
sought_up s (Offered list) true e = made_up s (offered list) s.begun e
sought_up s (Picked place) true e = made_up s (picked place) s.begun e

abbrev pub at : Option Begun → Phase → Bool → Said → Standing
at begun phase starting said = record { begun = begun; phase = phase; starting = starting; said = said }

abbrev pub Up : Phase → calls.Call → Type 0
Up ph call = (begun : Option Begun) (starting : Bool) (said : Said) → is_resting ph ≡ false → is_resting (then_stands (at begun ph starting said) ph call).phase ≡ false

abbrev is_up : List calls.Call → Bool
is_up talk = not (is_resting (standing talk).phase)

sought_at : (came : Found) (ph : Phase) → Up ph (calls.Sought came)
sought_at came Resting begun starting said e = absurd cc
sought_at came (Waiting request) begun starting said e = refl
sought_at came Seeking begun starting said e = sought_up (at begun Seeking starting said) came (is_for (need_in begun) came) refl
sought_at came (OnConfirm serial) begun starting said e = refl
sought_at came OnNeedkey begun starting said e = refl
sought_at came OnServer begun starting said e = refl
sought_at came (Kept answer) begun starting said e = refl

pub heard_at : (bytes : List ℕ) (ph : Phase) → Up ph (calls.Heard bytes)
heard_at bytes Resting begun starting said e = absurd cc
heard_at bytes (Waiting request) begun starting said e = refl
heard_at bytes Seeking begun starting said e = refl
heard_at bytes (OnConfirm serial) begun starting said e = refl
heard_at bytes OnNeedkey begun starting said e = refl
heard_at bytes OnServer begun starting said e = made_up (at begun OnServer starting said) (heard bytes) begun refl
heard_at bytes (Kept answer) begun starting said e = refl

pub unheard_at : (ph : Phase) → Up ph calls.Unheard
unheard_at Resting begun starting said e = absurd cc
unheard_at (Waiting request) begun starting said e = refl
unheard_at Seeking begun starting said e = refl
unheard_at (OnConfirm serial) begun starting said e = refl
unheard_at OnNeedkey begun starting said e = refl
unheard_at OnServer begun starting said e = made_up (at begun OnServer starting said) unheard begun refl
unheard_at (Kept answer) begun starting said e = refl

pub roomless_at : (ph : Phase) → Up ph calls.Roomless
roomless_at Resting begun starting said e = absurd cc
roomless_at (Waiting request) begun starting said e = refl
roomless_at Seeking begun starting said e = refl
roomless_at (OnConfirm serial) begun starting said e = refl
roomless_at OnNeedkey begun starting said e = refl
roomless_at OnServer begun starting said e = made_up (at begun OnServer starting said) roomless begun refl
roomless_at (Kept answer) begun starting said e = refl

pub consented_at : (agrees : Bool) (ph : Phase) → Up ph (calls.Consented agrees)
consented_at agrees Resting begun starting said e = absurd cc
consented_at agrees (Waiting request) begun starting said e = refl
consented_at agrees Seeking begun starting said e = refl
consented_at agrees (OnConfirm serial) begun starting said e = refl
consented_at agrees OnNeedkey begun starting said e = refl
consented_at agrees OnServer begun starting said e = refl
consented_at agrees (Kept answer) begun starting said e = refl

pub key_told_at : (ph : Phase) → Up ph calls.KeyTold
key_told_at Resting begun starting said e = absurd cc
key_told_at (Waiting request) begun starting said e = refl
key_told_at Seeking begun starting said e = refl
key_told_at (OnConfirm serial) begun starting said e = refl
key_told_at OnNeedkey begun starting said e = refl
key_told_at OnServer begun starting said e = refl
key_told_at (Kept answer) begun starting said e = refl

-- what a conversation that doesn't rest meets leaves it so
abbrev pub KeepsUp : calls.Call → Type 0
KeepsUp call = (ph : Phase) → Up ph call

abbrev pub Goes : List Deed → ℕ → Type 0
Goes done conv = is_resting (standing_of done conv).phase ≡ false

pub met_up : (conv : ℕ) (call : calls.Call) (done : List Deed) → KeepsUp call → Goes done conv → Goes (OfTalk conv call ∷ done) conv
met_up conv call done keeps up =
    let s = standing_of done conv in
    ap (λ (x : Bool). is_resting (standing (cond x (call ∷ talk done conv) (talk done conv))).phase) (same_number conv) ∙ keeps s.phase s.begun s.starting s.said up

-- ---- what else follows on a call is no call of a conversation

line_talk : (node : Node) (done : List Deed) (n : ℕ) → talk (line_read node done) n ≡ talk done n
line_talk Confirm done n = refl
line_talk Needkey done n = refl
line_talk Log done n = refl
line_talk Root done n = refl
line_talk Factotum done n = refl
line_talk Rpc done n = refl
line_talk Ctl done n = refl
line_talk Proto done n = refl

serve_talk : (node : Node) (conn tag : ℕ) (what : LineFound) (done : List Deed) (n : ℕ) → talk (serve_read node conn tag what done) n ≡ talk done n
serve_talk node conn tag Nothing done n = refl
serve_talk node conn tag TooLong done n = refl
serve_talk node conn tag (First line) done n = line_talk node done n

first_talk : (node : Node) (conn : ℕ) (o : Option Wait) (done : List Deed) (n : ℕ) → talk (serve_first node conn o done) n ≡ talk done n
first_talk node conn None done n = refl
first_talk node conn (Some wait) done n = serve_talk node conn wait.tag (line_for wait.count (lines_in done node)) done n

reads_talk : (times : ℕ) (node : Node) (conn fid : ℕ) (done : List Deed) (n : ℕ) → talk (serve_reads times node conn fid done) n ≡ talk done n
reads_talk zero node conn fid done n = refl
reads_talk (suc times) node conn fid done n = reads_talk times node conn fid (serve_first node conn (reader done conn fid) done) n ∙ first_talk node conn (reader done conn fid) done n

to_talk : (node : Node) (o : Option (ℕ × ℕ)) (done : List Deed) (n : ℕ) → talk (served_to node o done) n ≡ talk done n
to_talk node None done n = refl
to_talk node (Some holder) done n = reads_talk (length (waits done holder.0)) node holder.0 holder.1 done n

served_talk : (done : List Deed) (n : ℕ) → talk (all_served done) n ≡ talk done n
served_talk done n =
    let one = served Confirm done in
    let two = served Needkey one in
    to_talk Log (holder_of two Log) two n ∙ to_talk Needkey (holder_of one Needkey) one n ∙ to_talk Confirm (holder_of done Confirm) done n

logged_talk : (lines : List (List ℕ)) (done : List Deed) (n : ℕ) → talk (logged lines done) n ≡ talk done n
logged_talk [] done n = refl
logged_talk (line ∷ lines) done n = logged_talk lines (OfLog (side.Pushed line) ∷ done) n

raising_talk : (conv : ℕ) (ph : Phase) (done : List Deed) (n : ℕ) → talk (raising conv ph done) n ≡ talk done n
raising_talk conv Seeking done n = refl
raising_talk conv Resting done n = refl
raising_talk conv (Waiting request) done n = refl
raising_talk conv (OnConfirm serial) done n = refl
raising_talk conv OnNeedkey done n = refl
raising_talk conv OnServer done n = refl
raising_talk conv (Kept answer) done n = refl

prompting_talk : (conv : ℕ) (came : Found) (done : List Deed) (n : ℕ) → talk (prompting conv came done) n ≡ talk done n
prompting_talk conv (Chosen key) done n = refl
prompting_talk conv (AsksConsent key) done n = refl
prompting_talk conv AsksKey done n = refl
prompting_talk conv Denied done n = refl
prompting_talk conv NoneServes done n = refl
prompting_talk conv (Offered list) done n = refl
prompting_talk conv (Picked place) done n = refl

same_up : (one other : List calls.Call) → one ≡ other → is_resting (standing other).phase ≡ false → is_resting (standing one).phase ≡ false
same_up one other e h = ap (λ (t : List calls.Call). is_resting (standing t).phase) e ∙ h

seeking_up : (conv : ℕ) (ph : Phase) (done : List Deed) → Goes done conv → Goes (seeking conv ph done) conv
seeking_up conv Seeking done up =
    let came = finds (standing_of done conv) (asking done) (keys_of done) in
    same_up (talk (sought_by conv came done) conv) (talk (OfTalk conv (calls.Sought came) ∷ done) conv) (prompting_talk conv came (OfTalk conv (calls.Sought came) ∷ done) conv) (met_up conv (calls.Sought came) done (sought_at came) up)
seeking_up conv Resting done up = up
seeking_up conv (Waiting request) done up = up
seeking_up conv (OnConfirm serial) done up = up
seeking_up conv OnNeedkey done up = up
seeking_up conv OnServer done up = up
seeking_up conv (Kept answer) done up = up

once_up : (conv : ℕ) (done : List Deed) → Goes done conv → Goes (sought_once conv done) conv
once_up conv done up = seeking_up conv (standing_of done conv).phase done up

all_up : (starting : Bool) (conv : ℕ) (done : List Deed) → Goes done conv → Goes (seeking_all starting conv done) conv
all_up true conv done up = once_up conv (sought_once conv (sought_once conv done)) (once_up conv (sought_once conv done) (once_up conv done up))
all_up false conv done up = once_up conv done up

pub follows_up : (conv : ℕ) (call : calls.Call) (done : List Deed) → Goes (OfTalk conv call ∷ done) conv → Goes (met conv call done) conv
follows_up conv call done up =
    let one = OfTalk conv call ∷ done in
    let two = then_sought conv one in
    let three = then_raised conv two in
    let four = then_logged conv (standing_of done conv) three in
    same_up (talk (met conv call done) conv) (talk two conv)
    (served_talk four conv ∙ logged_talk (log_lines (is_debug three) conv (standing_of done conv) (standing_of three conv)) three conv ∙ raising_talk conv (standing_of two conv).phase two conv)
    (all_up (standing_of one conv).starting conv one up)

-- ---- a conversation goes on

abbrev pub AlongMet : ℕ → calls.Call → calls.Call → List Deed → List Deed → Type 0
AlongMet conv one other a b = Along (OfTalk conv one ∷ a) (OfTalk conv other ∷ b)

pub along_resumed : (conv : ℕ) (one other : calls.Call) (a b : List Deed) → Along a b → Serves a → Serves b → AlongMet conv one other a b → Goes (OfTalk conv one ∷ a) conv → Goes (OfTalk conv other ∷ b) conv
    → Along (delivered conv (met conv one a)) (delivered conv (met conv other b))
along_resumed conv one other a b s x y now first second =
    let more = along_met conv one other a b s x y now in
    along_delivered conv (met conv one a) (met conv other b) more
    (answers_alike (standing_of (met conv one a) conv) (standing_of (met conv other b) conv) (more.talks conv) (follows_up conv one a first) (follows_up conv other b second))

-- questions for the authentication server that are done with
abbrev of_others : ℕ → ℕ × ℕ → Bool
of_others conv question = not (eqb question.1 conv)

pub done_numbers : (conv : ℕ) (a b : List Deed) → numbers a ≡ numbers b → map numbered (filter (λ q. not (eqb q.conv conv)) (questions a)) ≡ map numbered (filter (λ q. not (eqb q.conv conv)) (questions b))
done_numbers conv a b e = kept_numbers (of_others conv) (questions a) ∙ ap (filter (of_others conv)) e ∙ sym (kept_numbers (of_others conv) (questions b))

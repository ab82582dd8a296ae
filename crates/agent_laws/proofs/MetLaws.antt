-- What conversations meet and what follows on it, reads of rpc, answers, replies of users and ends are done deed by deed, each so
-- tested as `Fits` says.
use Rattle.std.proofs.Common.{◌≡◌, ℕ, ◌≤◌, zero, suc, min, List, [], ◌∷◌, ◌++◌, length, map, Bool, true, false, cond, eqb, ltb, ◌&&◌, ◌||◌, not, Option, Some, None, refl, sym, ap, subst, ◌∙◌, inl, inr, arith}
use Rattle.std.specs.Prelude.{◌<◌, Result, Ok, Err, option_map, find, is_some, is_none}
use Rattle.std.specs.List.{list_all, list_any, filter}
use Rattle.std.specs.Option.{option_or}
use Rattle.std.proofs.lemmas.Bool.{and_parts, eq-eqb, eqb-true, ltb-false, not-true, not_from_false}
use Rattle.nine.specs.declared.message.RBody.{RBody}
use Rattle.file_tree.specs.declared.tree.Node.{Node}
use Rattle.file_tree.specs.declared.tree.Node.TheVariants.{Root, Factotum, Rpc, Ctl, Confirm, Needkey, Proto, Log}
use Rattle.file_tree.specs.declared.tree.FidState.{FidState}
use Rattle.file_tree.specs.Faults.{fault_text}
use Rattle.wire_base.specs.Rules.{first_told}
use Rattle.file_tree.specs.Calls.{fid_fault, attach_fault, walk_fault, open_fault, is_open, node_of}
use Rattle.key_lists.specs.Lists.{KeyList, add_fault, delete_fault, KeyEntry}
use Rattle.key_lists.specs.Edits.{Add, Delete}
use Rattle.key_lists.specs.CtlLines.{CtlLine, OnKeys, Debug, add_text, delete_text, carried_out, keys_with, keys_with_all, line_fault, line_over, read_line}
use Rattle.attr_tuples.specs.Printing.{public_text}
use Rattle.roles.specs.declared.need.Need.{Need}
use Rattle.roles.specs.declared.need.Need.TheVariants.{Nothing as NoNeed, Key, Offers, Pick, Exchange}
use Rattle.roles.specs.Templates.{shown_text}
use Rattle.side_files.specs.declared.line.PromptKind.{PromptKind}
use Rattle.side_files.specs.declared.line.PromptKind.TheVariants as pk
use Rattle.side_files.specs.declared.reply.Reply.{Reply}
use Rattle.side_files.specs.Calls as side
use Rattle.side_files.specs.Lines.{Found, Nothing, TooLong, First, found}
use Rattle.side_files.specs.Questions.{asker_of}
use Rattle.talks.specs.Requests.{RpcRequest}
use Rattle.talks.specs.declared.answer.RpcAnswer.{RpcAnswer}
use Rattle.talks.specs.declared.request.RpcFault.{RpcFault}
use Rattle.talks.specs.Calls as calls
use Rattle.talks.specs.declared.said.Said.{Said}
use Rattle.talks.specs.declared.said.Asking.{Asking}
use Rattle.talks.specs.Lines.{end_line, is_end, log_lines, start_line, start_template}
use Rattle.roles.specs.declared.need.Outcome.{Outcome}
use Rattle.roles.specs.declared.need.Outcome.TheVariants.{Accepted, Broken, Finished, Running}
use Rattle.talks.specs.Standings.{Phase, Resting, Waiting, Seeking, OnConfirm, OnNeedkey, OnServer, Kept, Standing, finds, found_for, is_for, need_in, role_name, sought_if, standing, template_of, then_stands, outcome_of}
use Rattle.agent_history.specs.Deeds.{Deed, OfFids, OfKeys, OfReplies, OfConnection, OfTalk, Raised, HandedOut, OfPrompts, OfLog, DropTaken, Swept, Halted, names, Answered, Awaited, Settled, Flushed, Taken, fid_of, holder_of, is_debug, keys_of}
use Rattle.nine.specs.declared.message.RBody.TheVariants as r
use Rattle.agent_history.specs.Replies.{Wait, is_unsettled, reader, settle_tag, too_small, waits}
use Rattle.agent_history.specs.SideFiles.{all_served, askers, file_of, line_read, lines_in, prompt_calls, prompts_of, serve_first, serve_read, serve_reads, served, served_to}
use Rattle.agent_history.specs.Conversations.{Speaker, all_shut, all_withdrawn, asking, closed, conv_of, deliver_to, delivered, ended_by, fits, give_to, given_up_by, logged, met, shut, sought, then_logged, questions, raising, reader_of, resumed, seeking, speaker_of, speakers, standing_of, talk, then_raised, then_took, told, stands, then_sought, sought_once, seeking_all}
use Rattle.agent_history.specs.Requests.{Call, Test, least_msize, most_msize, most_waits, is_rpc, has_answer, phase_in, phase_of, reading_answer, reading_talk, carrying_out, finds_none, line_deed, lines_done, reading_line, replying, said_by, stored}
use Rattle.agent_laws.specs.Laws.{all_prompted, asks_user, each_once, is_on_server, waits_on, IsLogged}
use Rattle.agent_laws.proofs.AskLaws.{all_weaker, no_question, open_stands, or_more}
use Rattle.agent_laws.proofs.SettleLaws.{find_passes, settled_any, speaker_found, tag_length}
use Rattle.agent_laws.proofs.KindLaws.{AskersStay, AsksNobody, Fits, FitsIf, IsKnown, IsToldSomehow, KeepsIf, KeepsOf, SettleFits, SizeFits, WaitFits, handed_of_met, is_handed, is_line, is_met, is_spoken, met_of_spoken, same_number}
use Rattle.agent_laws.proofs.PromptLaws.{Prompted, Within, all_members, all_there, asker_waits, askers_in, asks_nobody, replied_none, waits_so, withdrawn_none, withdrawn_within, within_any}

-- ---- a list of tests of which none holds

pub or_none : {X : Type 0} (x y : Option X) → option_or x y ≡ None → (x ≡ None) × (y ≡ None)
or_none None y e = (refl, e)
or_none (Some x) y e = absurd cc

map_none : {X Y : Type 0} (f : X → Y) (o : Option X) → option_map f o ≡ None → o ≡ None
map_none f None e = refl
map_none f (Some x) e = absurd cc

pub choice_none : {X : Type 0} (b : Bool) (x : X) (rest : Option X) → cond b (Some x) rest ≡ None → (b ≡ false) × (rest ≡ None)
choice_none true x rest e = absurd cc
choice_none false x rest e = (refl, e)

text_none : (test : Test) (tests : List Test) → first_told (test ∷ tests) ≡ None → (test.0 ≡ false) × (first_told tests ≡ None)
text_none test tests e = choice_none test.0 test.1 (first_told tests) e

pub no_fid_fault : (o : Option FidState) → option_map fault_text (fid_fault o) ≡ None → is_some o ≡ true
unfolding fid_fault
no_fid_fault None e = absurd cc
no_fid_fault (Some state) e = refl

pub no_attach_fault : (o : Option FidState) (held : ℕ) → option_map fault_text (attach_fault o held) ≡ None → is_open o ≡ false
unfolding attach_fault
no_attach_fault None held e = refl
no_attach_fault (Some state) held e = absurd cc

pub no_open_fault : (o : Option FidState) (mode : ℕ) → option_map fault_text (open_fault o mode) ≡ None → (is_some o ≡ true) × (is_open o ≡ false)
unfolding open_fault
no_open_fault None mode e = absurd cc
no_open_fault (Some state) mode e = (refl, (choice_none (is_open (Some state)) _ _ (map_none fault_text _ e)).0)

pub agreed_fits : (msize : ℕ) (known : Bool) → ltb msize least_msize ≡ false → SizeFits (cond known (Some (min msize most_msize)) None)
agreed_fits msize true big = (omega (arith, ltb-false msize least_msize big), omega arith)
agreed_fits msize false big = tt

-- the fid that a walk comes to isn't open
pub no_walk_fault : (fid newfid : Option FidState) (same : Bool) (held : ℕ) (names : List (List ℕ)) → (same ≡ true → newfid ≡ fid) → option_map fault_text (walk_fault fid newfid same held names) ≡ None → is_open newfid ≡ false
unfolding walk_fault
no_walk_fault fid newfid same held names is e =
    let one = choice_none (is_none fid) _ _ (map_none fault_text _ e) in
    let two = choice_none (is_open fid) _ _ one.1 in
    let three = choice_none (is_some newfid && not same) _ _ two.1 in
    walks_to newfid same is three.0 two.0
  where
    walks_to : (newfid : Option FidState) (same : Bool) → (same ≡ true → newfid ≡ fid) → (is_some newfid && not same) ≡ false → is_open fid ≡ false → is_open newfid ≡ false
    walks_to None same is free rests = refl
    walks_to (Some state) true is free rests = ap is_open (is refl) ∙ rests
    walks_to (Some state) false is free rests = absurd cc

-- ---- lines

deed_fits : (done : List Deed) (conn : ℕ) (said : CtlLine) → line_fault (keys_of done) said ≡ None → Fits done (OfKeys conn (line_deed said))
deed_fits done conn (OnKeys (Add key)) f = map_none add_text (add_fault key (keys_of done)) f
deed_fits done conn (OnKeys (Delete template)) f = map_none delete_text (delete_fault template (keys_of done)) f
deed_fits done conn Debug f = tt

-- a line that can be read, where nothing is wrong with it
abbrev pub unless_wrong : CtlLine → Option (List ℕ) → Result CtlLine (List ℕ)
unless_wrong said fault = elim fault [ Some text ↦ Err text | None ↦ Ok said ]

abbrev pub said_over : KeyList → Result CtlLine (List ℕ) → Result CtlLine (List ℕ)
said_over keys r = elim r [ Err text ↦ Err text | Ok said ↦ unless_wrong said (line_fault keys said) ]

nothing_wrong : (keys : KeyList) (said other : CtlLine) (fault : Option (List ℕ)) → line_fault keys said ≡ fault → unless_wrong said fault ≡ Ok other → line_fault keys other ≡ None
nothing_wrong keys said other None f e = let same : said ≡ other = cc in subst (λ (l : CtlLine). line_fault keys l ≡ None) same f
nothing_wrong keys said other (Some text) f e = absurd cc

said_is_right : (keys : KeyList) (r : Result CtlLine (List ℕ)) (said : CtlLine) → said_over keys r ≡ Ok said → line_fault keys said ≡ None
said_is_right keys (Err text) said e = absurd cc
said_is_right keys (Ok other) said e = nothing_wrong keys other said (line_fault keys other) refl e

pub line_is_right : (keys : KeyList) (line : List ℕ) (said : CtlLine) → line_over keys line ≡ Ok said → line_fault keys said ≡ None
unfolding line_over
line_is_right keys line said e = said_is_right keys (read_line line) said e

-- the keys after a line are those of its deed
pub keys_of_line : (done : List Deed) (conn : ℕ) (said : CtlLine) → keys_of (OfKeys conn (line_deed said) ∷ done) ≡ keys_with said (keys_of done)
keys_of_line done conn (OnKeys (Add key)) = refl
keys_of_line done conn (OnKeys (Delete template)) = refl
keys_of_line done conn Debug = refl

-- and so are those after some lines
pub keys_of_lines : (conn : ℕ) (said : List CtlLine) (done : List Deed) → keys_of (lines_done conn said done) ≡ keys_with_all said (keys_of done)
keys_of_lines conn [] done = refl
keys_of_lines conn (line ∷ said) done = keys_of_lines conn said (OfKeys conn (line_deed line) ∷ done) ∙ ap (keys_with_all said) (keys_of_line done conn line)

abbrev pub lines_from : KeyList → List (List ℕ) → Result CtlLine (List ℕ) → List CtlLine
lines_from keys lines r = elim r [ Ok said ↦ said ∷ carried_out (keys_with said keys) lines | Err text ↦ [] ]

line_grows : (P : List Deed → Type 0) (conn : ℕ) → KeepsOf (is_line conn) P → (lines : List (List ℕ)) (done : List Deed) → P done
    → ((said : CtlLine) → P (OfKeys conn (line_deed said) ∷ done) → P (lines_done conn (carried_out (keys_with said (keys_of done)) lines) (OfKeys conn (line_deed said) ∷ done)))
    → (r : Result CtlLine (List ℕ)) → ((said : CtlLine) → r ≡ Ok said → line_fault (keys_of done) said ≡ None) → P (lines_done conn (lines_from (keys_of done) lines r) done)
line_grows P conn k lines done p more (Err text) right = p
line_grows P conn k lines done p more (Ok said) right = more said (k done (OfKeys conn (line_deed said)) (same_number conn) (deed_fits done conn said (right said refl)) p)

pub lines_grow : (P : List Deed → Type 0) (conn : ℕ) → KeepsOf (is_line conn) P → (lines : List (List ℕ)) (done : List Deed) → P done → P (lines_done conn (carried_out (keys_of done) lines) done)
lines_grow P conn k [] done p = p
lines_grow P conn k (line ∷ lines) done p =
    line_grows P conn k lines done p
    (λ said q. subst (λ (keys : KeyList). P (lines_done conn (carried_out keys lines) (OfKeys conn (line_deed said) ∷ done))) (keys_of_line done conn said) (lines_grow P conn k lines (OfKeys conn (line_deed said) ∷ done) q))
    (line_over (keys_of done) line) (line_is_right (keys_of done) line)

-- ---- conversations

-- what holds tells that the questions are known
abbrev pub Sees : (Known : Type 0) → (List Deed → Type 0) → Type 0
Sees Known P = (done : List Deed) → P done → Known → IsKnown done

-- a question is raised where the conversation waits for the server
raising_grows : (Known : Type 0) (P : List Deed → Type 0) → KeepsIf Known is_met P → (conv : ℕ) (ph : Phase) (done : List Deed) → (standing_of done conv).phase ≡ ph
    → (Known → stands done conv ≡ true) → (Known → list_any (λ q. eqb q.conv conv) (questions done) ≡ false) → P done → P (raising conv ph done)
raising_grows Known P k conv OnServer done e speaks alone p = k done (Raised conv) refl (record { phase = e; speaks = speaks; alone = alone }) p
raising_grows Known P k conv Resting done e speaks alone p = p
raising_grows Known P k conv (Waiting request) done e speaks alone p = p
raising_grows Known P k conv Seeking done e speaks alone p = p
raising_grows Known P k conv (OnConfirm serial) done e speaks alone p = p
raising_grows Known P k conv OnNeedkey done e speaks alone p = p
raising_grows Known P k conv (Kept answer) done e speaks alone p = p

pub raised_then : (Known : Type 0) (P : List Deed → Type 0) → KeepsIf Known is_met P → (conv : ℕ) (done : List Deed)
    → (Known → stands done conv ≡ true) → (Known → list_any (λ q. eqb q.conv conv) (questions done) ≡ false) → P done → P (then_raised conv done)
raised_then Known P k conv done speaks alone p = raising_grows Known P k conv (standing_of done conv).phase done refl speaks alone p

-- what holds while a conversation that stands, and has no question to the server, gets what it needs
abbrev pub Going : (Known : Type 0) → (List Deed → Type 0) → ℕ → List Deed → Type 0
Going Known P conv done = P done × (Known → stands done conv ≡ true) × (Known → list_any (λ q. eqb q.conv conv) (questions done) ≡ false)

-- a search that asks leaves its conversation waiting for the reply
consent_waits : (need : Need) (s : Standing) (role : List ℕ) (said : Said) (asks : Asking) (list : KeyList) (key : KeyEntry) → found_for need role said asks list ≡ calls.AsksConsent key → waits_on pk.Confirm (sought_if (is_for need (calls.AsksConsent key)) s (calls.AsksConsent key)).phase ≡ true
consent_waits (Key template) s role said asks list key e = refl
consent_waits (Offers template) s role said asks list key e = absurd cc
consent_waits (Pick templates) s role said asks list key e = absurd cc
consent_waits (Exchange request shape) s role said asks list key e = absurd cc
consent_waits NoNeed s role said asks list key e = absurd cc

needkey_waits : (need : Need) (s : Standing) (role : List ℕ) (said : Said) (asks : Asking) (list : KeyList) → found_for need role said asks list ≡ calls.AsksKey → waits_on pk.Needkey (sought_if (is_for need calls.AsksKey) s calls.AsksKey).phase ≡ true
needkey_waits (Key template) s role said asks list e = refl
needkey_waits (Offers template) s role said asks list e = absurd cc
needkey_waits (Pick templates) s role said asks list e = absurd cc
needkey_waits (Exchange request shape) s role said asks list e = absurd cc
needkey_waits NoNeed s role said asks list e = absurd cc

-- the phase of a conversation behind a call of it
pub phase_behind : (p : Phase → Bool) (done : List Deed) (conv : ℕ) (call : calls.Call) (ph : Phase) → (standing_of done conv).phase ≡ ph → p (then_stands (standing_of done conv) ph call).phase ≡ true → p (standing_of (OfTalk conv call ∷ done) conv).phase ≡ true
phase_behind p done conv call ph e h =
    let there : p (standing (call ∷ talk done conv)).phase ≡ true = subst (λ (x : Phase). p (then_stands (standing_of done conv) x call).phase ≡ true) (sym e) h in
    subst (λ (b : Bool). p (standing (cond b (call ∷ talk done conv) (talk done conv))).phase ≡ true) (sym (same_number conv)) there

seeks_none : (of : PromptKind) → waits_on of Seeking ≡ false
seeks_none pk.Confirm = refl
seeks_none pk.Needkey = refl

-- it asks where the search comes to that
asking_grows : (Known : Type 0) (P : List Deed → Type 0) → Sees Known P → KeepsIf Known is_met P → (conv : ℕ) (done : List Deed) → (standing_of done conv).phase ≡ Seeking → Going Known P conv done
    → (came : calls.Found) → finds (standing_of done conv) (asking done) (keys_of done) ≡ came → P (OfTalk conv (calls.Sought came) ∷ done) → P (sought conv came done)
unfolding finds
asking_grows Known P sees k conv done e g (calls.AsksConsent key) f p =
    let s = standing_of done conv in
    let one = OfTalk conv (calls.Sought (calls.AsksConsent key)) ∷ done in
    k one (OfPrompts pk.Confirm (side.Asked conv (public_text key.tuple))) refl
    (record {
      follows = (key, done, refl, refl);
      phase = phase_behind (waits_on pk.Confirm) done conv (calls.Sought (calls.AsksConsent key)) Seeking e (consent_waits (need_in s.begun) s (role_name s.begun) s.said (asking done) (keys_of done) key f);
      speaks = g.1;
      alone = λ known of. asks_nobody done of conv ((sees done g.0 known).prompted of) (ap (waits_on of) e ∙ seeks_none of);
    }) p
asking_grows Known P sees k conv done e g calls.AsksKey f p =
    let s = standing_of done conv in
    let one = OfTalk conv (calls.Sought calls.AsksKey) ∷ done in
    k one (OfPrompts pk.Needkey (side.Asked conv (shown_text (template_of (standing_of one conv).begun)))) refl
    (record {
      follows = (done, refl, refl);
      phase = phase_behind (waits_on pk.Needkey) done conv (calls.Sought calls.AsksKey) Seeking e (needkey_waits (need_in s.begun) s (role_name s.begun) s.said (asking done) (keys_of done) f);
      speaks = g.1;
      alone = λ known of. asks_nobody done of conv ((sees done g.0 known).prompted of) (ap (waits_on of) e ∙ seeks_none of);
    }) p
asking_grows Known P sees k conv done e g (calls.Chosen key) f p = p
asking_grows Known P sees k conv done e g calls.Denied f p = p
asking_grows Known P sees k conv done e g calls.NoneServes f p = p
asking_grows Known P sees k conv done e g (calls.Offered list) f p = p
asking_grows Known P sees k conv done e g (calls.Picked place) f p = p

-- nobody's questions to the server, and nobody's conversation, come or go with it
sought_stands : (conv : ℕ) (came : calls.Found) (done : List Deed) (n : ℕ) → stands (sought conv came done) n ≡ stands done n
sought_stands conv (calls.AsksConsent key) done n = refl
sought_stands conv calls.AsksKey done n = refl
sought_stands conv (calls.Chosen key) done n = refl
sought_stands conv calls.Denied done n = refl
sought_stands conv calls.NoneServes done n = refl
sought_stands conv (calls.Offered list) done n = refl
sought_stands conv (calls.Picked place) done n = refl

sought_questions : (conv : ℕ) (came : calls.Found) (done : List Deed) → questions (sought conv came done) ≡ questions done
sought_questions conv (calls.AsksConsent key) done = refl
sought_questions conv calls.AsksKey done = refl
sought_questions conv (calls.Chosen key) done = refl
sought_questions conv calls.Denied done = refl
sought_questions conv calls.NoneServes done = refl
sought_questions conv (calls.Offered list) done = refl
sought_questions conv (calls.Picked place) done = refl

seeking_grows : (Known : Type 0) (P : List Deed → Type 0) → Sees Known P → KeepsIf Known is_met P → (conv : ℕ) (ph : Phase) (done : List Deed) → (standing_of done conv).phase ≡ ph → Going Known P conv done → Going Known P conv (seeking conv ph done)
seeking_grows Known P sees k conv Seeking done e g =
    let came = finds (standing_of done conv) (asking done) (keys_of done) in (
      asking_grows Known P sees k conv done e g came refl (k done (OfTalk conv (calls.Sought came)) refl refl g.0),
      (λ known. sought_stands conv came done conv ∙ g.1 known),
      (λ known. ap (list_any (λ q. eqb q.conv conv)) (sought_questions conv came done) ∙ g.2 known),
    )
seeking_grows Known P sees k conv Resting done e g = g
seeking_grows Known P sees k conv (Waiting request) done e g = g
seeking_grows Known P sees k conv (OnConfirm serial) done e g = g
seeking_grows Known P sees k conv OnNeedkey done e g = g
seeking_grows Known P sees k conv OnServer done e g = g
seeking_grows Known P sees k conv (Kept answer) done e g = g

once_grows : (Known : Type 0) (P : List Deed → Type 0) → Sees Known P → KeepsIf Known is_met P → (conv : ℕ) (done : List Deed) → Going Known P conv done → Going Known P conv (sought_once conv done)
once_grows Known P sees k conv done g = seeking_grows Known P sees k conv (standing_of done conv).phase done refl g

pub chain_grows : (Known : Type 0) (P : List Deed → Type 0) → Sees Known P → KeepsIf Known is_met P → (starting : Bool) (conv : ℕ) (done : List Deed) → Going Known P conv done → Going Known P conv (seeking_all starting conv done)
chain_grows Known P sees k true conv done g = once_grows Known P sees k conv (sought_once conv (sought_once conv done)) (once_grows Known P sees k conv (sought_once conv done) (once_grows Known P sees k conv done g))
chain_grows Known P sees k false conv done g = once_grows Known P sees k conv done g

-- lines of the log
abbrev EachLogged : List (List ℕ) → List Deed → Type 0
EachLogged [] done = Unit {0}
EachLogged (line ∷ lines) done = IsLogged line done × EachLogged lines done

each_more : (lines : List (List ℕ)) (line : List ℕ) (done : List Deed) → EachLogged lines done → EachLogged lines (OfLog (side.Pushed line) ∷ done)
each_more [] line done h = tt
each_more (other ∷ lines) line done h = (h.0, each_more lines line done h.1)

end_logged : (done : List Deed) (conv : ℕ) (o : Option Outcome) → outcome_of (standing_of done conv) ≡ o → EachLogged (end_line conv (start_template (standing_of done conv).begun) o) done
end_logged done conv None e = tt
end_logged done conv (Some Running) e = tt
end_logged done conv (Some (Accepted info)) e = ((conv, inr (ap (end_line conv (start_template (standing_of done conv).begun)) e)), tt)
end_logged done conv (Some Finished) e = ((conv, inr (ap (end_line conv (start_template (standing_of done conv).begun)) e)), tt)
end_logged done conv (Some (Broken cause)) e = ((conv, inr (ap (end_line conv (start_template (standing_of done conv).begun)) e)), tt)

-- the lines of a conversation as it stands
logged_lines : (done : List Deed) (conv : ℕ) (before : Standing) → EachLogged (log_lines (is_debug done) conv before (standing_of done conv)) done
logged_lines done conv before =
    by_parts (is_debug done) refl (not (is_some (outcome_of before)) && is_some (outcome_of (standing_of done conv))) (is_end (outcome_of before))
  where
    ends : (y : Bool) → EachLogged (cond y [] (end_line conv (start_template (standing_of done conv).begun) (outcome_of (standing_of done conv)))) done
    ends true = tt
    ends false = end_logged done conv (outcome_of (standing_of done conv)) refl

    by_parts : (debug : Bool) → is_debug done ≡ debug → (x y : Bool) → EachLogged (cond (debug && x) (start_line conv (start_template (standing_of done conv).begun) ∷ []) [] ++ cond y [] (end_line conv (start_template (standing_of done conv).begun) (outcome_of (standing_of done conv)))) done
    by_parts true e true y = ((conv, inl (e, refl)), ends y)
    by_parts true e false y = ends y
    by_parts false e x y = ends y

logged_grows : (Known : Type 0) (P : List Deed → Type 0) → KeepsIf Known is_handed P → (lines : List (List ℕ)) (done : List Deed) → EachLogged lines done → P done → P (logged lines done)
logged_grows Known P k [] done each p = p
logged_grows Known P k (line ∷ lines) done each p = logged_grows Known P k lines (OfLog (side.Pushed line) ∷ done) (each_more lines line done each.1) (k done (OfLog (side.Pushed line)) refl each.0 p)

pub then_logged_grows : (Known : Type 0) (P : List Deed → Type 0) → KeepsIf Known is_handed P → (conv : ℕ) (before : Standing) (done : List Deed) → P done → P (then_logged conv before done)
then_logged_grows Known P k conv before done p = logged_grows Known P k (log_lines (is_debug done) conv before (standing_of done conv)) done (logged_lines done conv before) p

pub line_grows_of : (Known : Type 0) (P : List Deed → Type 0) → KeepsIf Known is_handed P → (node : Node) (done : List Deed) → P done → P (line_read node done)
line_grows_of Known P k Confirm done p = k done (OfPrompts pk.Confirm side.Read) refl tt p
line_grows_of Known P k Needkey done p = k done (OfPrompts pk.Needkey side.Read) refl tt p
line_grows_of Known P k Log done p = k done (OfLog side.Taken) refl tt p
line_grows_of Known P k Root done p = p
line_grows_of Known P k Factotum done p = p
line_grows_of Known P k Rpc done p = p
line_grows_of Known P k Ctl done p = p
line_grows_of Known P k Proto done p = p

line_waits : (node : Node) (done : List Deed) (conn : ℕ) → waits (line_read node done) conn ≡ waits done conn
line_waits Confirm done conn = refl
line_waits Needkey done conn = refl
line_waits Log done conn = refl
line_waits Root done conn = refl
line_waits Factotum done conn = refl
line_waits Rpc done conn = refl
line_waits Ctl done conn = refl
line_waits Proto done conn = refl

-- a line that is found is no longer than what is read
found_step : (count : ℕ) (line other : List ℕ) (b : Bool) → ltb count (length line) ≡ b → cond b TooLong (First line) ≡ First other → length other ≤ count
found_step count line other true e f = absurd cc
found_step count line other false e f = let same : line ≡ other = cc in subst (λ (bytes : List ℕ). length bytes ≤ count) same (omega (arith, ltb-false count (length line) e))

pub found_fits : (count : ℕ) (lines : List (List ℕ)) (line : List ℕ) → found count lines ≡ First line → length line ≤ count
found_fits count [] line e = absurd cc
found_fits count (other ∷ lines) line e = found_step count other line (ltb count (length other)) refl e

-- a read of a fid that isn't settled
abbrev pub is_reader : ℕ → Wait → Bool
is_reader fid wait = eqb wait.fid fid && is_unsettled wait

-- it is told something of what it may hold
reader_fits : (done : List Deed) (conn fid : ℕ) (wait : Wait) (body : RBody) → reader done conn fid ≡ Some wait → IsToldSomehow done conn wait body → SettleFits done conn wait.tag body
reader_fits done conn fid wait body e told = record { test = is_reader fid; wait = wait; found = e; waited = (and_parts (eqb wait.fid fid) (is_unsettled wait) (find_passes (is_reader fid) wait (waits done conn) e)).1; under = refl; told_so = told }

-- reading a line opens and closes no file
pub line_holder : (node of : Node) (done : List Deed) → holder_of (line_read node done) of ≡ holder_of done of
line_holder Confirm of done = refl
line_holder Needkey of done = refl
line_holder Log of done = refl
line_holder Root of done = refl
line_holder Factotum of done = refl
line_holder Rpc of done = refl
line_holder Ctl of done = refl
line_holder Proto of done = refl

serve_holder : (node of : Node) (conn tag : ℕ) (what : Found) (done : List Deed) → holder_of (serve_read node conn tag what done) of ≡ holder_of done of
serve_holder node of conn tag Nothing done = refl
serve_holder node of conn tag TooLong done = refl
serve_holder node of conn tag (First line) done = line_holder node of done

pub first_holder : (node of : Node) (conn : ℕ) (o : Option Wait) (done : List Deed) → holder_of (serve_first node conn o done) of ≡ holder_of done of
first_holder node of conn None done = refl
first_holder node of conn (Some wait) done = serve_holder node of conn wait.tag (found wait.count (lines_in done node)) done

-- a read that waits for a fid is of it
reader_fid : (done : List Deed) (conn fid : ℕ) (wait : Wait) → reader done conn fid ≡ Some wait → wait.fid ≡ fid
reader_fid done conn fid wait e = eqb-true wait.fid fid (and_parts (eqb wait.fid fid) (is_unsettled wait) (find_passes (is_reader fid) wait (waits done conn) e)).0

-- the fid of the read that is told has the file open
own_fid : (done : List Deed) (node : Node) (conn fid : ℕ) (wait : Wait) → reader done conn fid ≡ Some wait → holder_of done node ≡ Some (conn, fid) → holder_of done node ≡ Some (conn, wait.fid)
own_fid done node conn fid wait e held =
    held ∙ ap (λ (n : ℕ). Some (conn, n)) (sym (reader_fid done conn fid wait e))

serve_grows : (Known : Type 0) (P : List Deed → Type 0) → KeepsIf Known is_handed P → (node : Node) (conn fid : ℕ) (wait : Wait) (what : Found) (done : List Deed) → reader done conn fid ≡ Some wait → holder_of done node ≡ Some (conn, fid) → found wait.count (lines_in done node) ≡ what → P done
    → P (serve_read node conn wait.tag what done)
serve_grows Known P k node conn fid wait Nothing done e held f p = p
serve_grows Known P k node conn fid wait TooLong done e held f p =
    k done (OfReplies conn (Settled wait.tag too_small)) refl (reader_fits done conn fid wait too_small e (inr (node, inr (record { holds = own_fid done node conn fid wait e held; over = f; says = refl })))) p
serve_grows Known P k node conn fid wait (First line) done e held f p =
    k (line_read node done) (OfReplies conn (Settled wait.tag (r.Read line))) refl
    (reader_fits (line_read node done) conn fid wait (r.Read line) (ap (find (is_reader fid)) (line_waits node done conn) ∙ e) (inr (node, inl (record { line = line; earlier = done; read = refl; holds = own_fid done node conn fid wait e held; first = f; says = refl }))))
    (line_grows_of Known P k node done p)

first_grows : (Known : Type 0) (P : List Deed → Type 0) → KeepsIf Known is_handed P → (node : Node) (conn fid : ℕ) (o : Option Wait) (done : List Deed) → reader done conn fid ≡ o → holder_of done node ≡ Some (conn, fid) → P done → P (serve_first node conn o done)
first_grows Known P k node conn fid None done e held p = p
first_grows Known P k node conn fid (Some wait) done e held p = serve_grows Known P k node conn fid wait (found wait.count (lines_in done node)) done e held refl p

pub reads_grow : (Known : Type 0) (P : List Deed → Type 0) → KeepsIf Known is_handed P → (n : ℕ) (node : Node) (conn fid : ℕ) (done : List Deed) → holder_of done node ≡ Some (conn, fid) → P done → P (serve_reads n node conn fid done)
reads_grow Known P k zero node conn fid done held p = p
reads_grow Known P k (suc n) node conn fid done held p =
    reads_grow Known P k n node conn fid (serve_first node conn (reader done conn fid) done) (first_holder node node conn (reader done conn fid) done ∙ held) (first_grows Known P k node conn fid (reader done conn fid) done refl held p)

served_grows : (Known : Type 0) (P : List Deed → Type 0) → KeepsIf Known is_handed P → (node : Node) (o : Option (ℕ × ℕ)) (done : List Deed) → holder_of done node ≡ o → P done → P (served_to node o done)
served_grows Known P k node None done held p = p
served_grows Known P k node (Some holder) done held p = reads_grow Known P k (length (waits done holder.0)) node holder.0 holder.1 done held p

pub all_served_grows : (Known : Type 0) (P : List Deed → Type 0) → KeepsIf Known is_handed P → (done : List Deed) → P done → P (all_served done)
all_served_grows Known P k done p =
    let one = served Confirm done in
    let two = served Needkey one in
    served_grows Known P k Log (holder_of two Log) two refl (served_grows Known P k Needkey (holder_of one Needkey) one refl (served_grows Known P k Confirm (holder_of done Confirm) done refl p))

-- what follows on a call
pub follows : (Known : Type 0) (P : List Deed → Type 0) → Sees Known P → KeepsIf Known is_met P → (conv : ℕ) (call : calls.Call) (done : List Deed)
    → (Known → stands done conv ≡ true) → (Known → list_any (λ q. eqb q.conv conv) (questions (OfTalk conv call ∷ done)) ≡ false) → P (OfTalk conv call ∷ done) → P (met conv call done)
follows Known P sees k conv call done speaks alone p =
    let one = OfTalk conv call ∷ done in
    let s = standing_of done conv in
    let g = chain_grows Known P sees k (standing_of one conv).starting conv one (p, speaks, alone) in
    let two = then_raised conv (then_sought conv one) in
    let three = then_logged conv s two in
    let given = handed_of_met Known P k in
    all_served_grows Known P given three (then_logged_grows Known P given conv s two (raised_then Known P k conv (then_sought conv one) g.1 g.2 g.0))

-- ---- reads of rpc

took_grows : (Known : Type 0) (P : List Deed → Type 0) → KeepsIf Known is_handed P → (conv count : ℕ) (answer : RpcAnswer) (done : List Deed) → P done → P (then_took conv count answer done)
took_grows Known P k conv count answer done p = by_cases (fits count answer)
  where
    by_cases : (b : Bool) → P (cond b (OfTalk conv calls.Took ∷ done) done)
    by_cases true = k done (OfTalk conv calls.Took) refl tt p
    by_cases false = p

-- an answer is read, or the read waits
answer_grows : (Known : Type 0) (P : List Deed → Type 0) (call : Call) → KeepsIf Known (is_spoken call.conn) P → (conv fid count : ℕ) (ph : Phase) (done : List Deed)
    → (has_answer ph ≡ false → WaitFits done call.conn call.tag fid count) → P done → P (reading_answer call conv fid count ph done)
answer_grows Known P call k conv fid count (Kept answer) done w p = took_grows Known P (handed_of_met Known P (met_of_spoken Known P call.conn k)) conv count answer done p
answer_grows Known P call k conv fid count Resting done w p = k done (OfReplies call.conn (Awaited call.tag fid count)) (same_number call.conn) (w refl) p
answer_grows Known P call k conv fid count (Waiting request) done w p = k done (OfReplies call.conn (Awaited call.tag fid count)) (same_number call.conn) (w refl) p
answer_grows Known P call k conv fid count Seeking done w p = k done (OfReplies call.conn (Awaited call.tag fid count)) (same_number call.conn) (w refl) p
answer_grows Known P call k conv fid count (OnConfirm serial) done w p = k done (OfReplies call.conn (Awaited call.tag fid count)) (same_number call.conn) (w refl) p
answer_grows Known P call k conv fid count OnNeedkey done w p = k done (OfReplies call.conn (Awaited call.tag fid count)) (same_number call.conn) (w refl) p
answer_grows Known P call k conv fid count OnServer done w p = k done (OfReplies call.conn (Awaited call.tag fid count)) (same_number call.conn) (w refl) p

-- what conversations meet leaves it that a read may wait: those that wait may be settled, and wait in their places
record Place (named : Bool) (tag fid : ℕ) (ws : List Wait) : Type 0 where
  free : named ≡ true → list_any (λ w. eqb w.fid fid) ws ≡ false
  unused : list_any (λ w. eqb w.tag tag) ws ≡ false
  few : length ws < most_waits

settled_place : (b named : Bool) (tag fid t : ℕ) (body : RBody) (ws : List Wait) → Place named tag fid ws → Place named tag fid (cond b (settle_tag t body ws) ws)
settled_place false named tag fid t body ws h = h
settled_place true named tag fid t body ws h = record {
  free = λ is. settled_any (λ n. eqb n fid) (λ w. w.fid) (λ x w. refl) t body ws ∙ h.free is;
  unused = settled_any (λ n. eqb n tag) (λ w. w.tag) (λ x w. refl) t body ws ∙ h.unused;
  few = omega (arith, h.few, tag_length t body ws);
}

wait_stays : (Known : Type 0) (conn tag fid count : ℕ) → KeepsIf Known is_met (λ done. WaitFits done conn tag fid count)
wait_stays Known conn tag fid count done (OfTalk conv call) kind fits w = record { opened = w.opened; free = w.free; unused = w.unused; few = w.few; size = w.size }
wait_stays Known conn tag fid count done (Raised conv) kind fits w = record { opened = w.opened; free = w.free; unused = w.unused; few = w.few; size = w.size }
wait_stays Known conn tag fid count done (OfPrompts about doing) kind fits w = record { opened = w.opened; free = w.free; unused = w.unused; few = w.few; size = w.size }
wait_stays Known conn tag fid count done (OfLog doing) kind fits w = record { opened = w.opened; free = w.free; unused = w.unused; few = w.few; size = w.size }
wait_stays Known conn tag fid count done (OfReplies at (Settled t body)) kind fits w =
    let same = settled_place (eqb at conn) (is_rpc (node_of (fid_of done conn fid))) tag fid t body (waits done conn) (record { free = w.free; unused = w.unused; few = w.few }) in
    record { opened = w.opened; free = same.free; unused = same.unused; few = same.few; size = w.size }
wait_stays Known conn tag fid count done (OfReplies at (Answered t body)) kind fits w = absurd cc
wait_stays Known conn tag fid count done (OfReplies at (Awaited t f c)) kind fits w = absurd cc
wait_stays Known conn tag fid count done (OfReplies at (Flushed t)) kind fits w = absurd cc
wait_stays Known conn tag fid count done (OfReplies at Taken) kind fits w = absurd cc
wait_stays Known conn tag fid count done (OfFids at deed) kind fits w = absurd cc
wait_stays Known conn tag fid count done (OfKeys at deed) kind fits w = absurd cc
wait_stays Known conn tag fid count done (OfConnection at deed) kind fits w = absurd cc
wait_stays Known conn tag fid count done HandedOut kind fits w = absurd cc
wait_stays Known conn tag fid count done DropTaken kind fits w = absurd cc
wait_stays Known conn tag fid count done Swept kind fits w = absurd cc
wait_stays Known conn tag fid count done Halted kind fits w = absurd cc

-- the same together with something else
both_kept : (Known : Type 0) (P Q : List Deed → Type 0) (kind : Deed → Bool) → KeepsIf Known kind P → KeepsIf Known kind Q → KeepsIf Known kind (λ done. P done × Q done)
both_kept Known P Q kind k l done deed is fits p = (k done deed is fits p.0, l done deed is fits p.1)

-- a request that isn't carried out yet is, and what is there then is read or waited for
carried_grows : (Known : Type 0) (P : List Deed → Type 0) (call : Call) → Sees Known P → KeepsIf Known (is_spoken call.conn) P → (conv fid count : ℕ) (ph : Phase) (done : List Deed) → (standing_of done conv).phase ≡ ph
    → stands done conv ≡ true → (has_answer ph ≡ false → WaitFits done call.conn call.tag fid count) → P done
    → P (reading_answer call conv fid count (standing_of (carrying_out conv call.word ph done) conv).phase (carrying_out conv call.word ph done))
carried_grows Known P call sees k conv fid count (Waiting request) done e there w p =
    let deed = calls.CarriedOut call.word in
    let Both = λ (d : List Deed). P d × WaitFits d call.conn call.tag fid count in
    let kb = both_kept Known P (λ d. WaitFits d call.conn call.tag fid count) is_met (met_of_spoken Known P call.conn k) (wait_stays Known call.conn call.tag fid count) in
    let alone : Known → list_any (λ q. eqb q.conv conv) (questions done) ≡ false = λ known. no_question done conv (sees done p known).asked (ap is_on_server e) in
    let after = follows Known Both (λ d q. sees d q.0) kb conv deed done (λ known. there) alone (kb done (OfTalk conv deed) refl tt (p, w refl)) in
    answer_grows Known P call k conv fid count (standing_of (met conv deed done) conv).phase (met conv deed done) (λ none. after.1) after.0
carried_grows Known P call sees k conv fid count (Kept answer) done e there w p =
    answer_grows Known P call k conv fid count (standing_of done conv).phase done (λ none. w (sym (ap has_answer e) ∙ none)) p
carried_grows Known P call sees k conv fid count Resting done e there w p = answer_grows Known P call k conv fid count (standing_of done conv).phase done (λ none. w refl) p
carried_grows Known P call sees k conv fid count Seeking done e there w p = answer_grows Known P call k conv fid count (standing_of done conv).phase done (λ none. w refl) p
carried_grows Known P call sees k conv fid count (OnConfirm serial) done e there w p = answer_grows Known P call k conv fid count (standing_of done conv).phase done (λ none. w refl) p
carried_grows Known P call sees k conv fid count OnNeedkey done e there w p = answer_grows Known P call k conv fid count (standing_of done conv).phase done (λ none. w refl) p
carried_grows Known P call sees k conv fid count OnServer done e there w p = answer_grows Known P call k conv fid count (standing_of done conv).phase done (λ none. w refl) p

pub talk_grows : (Known : Type 0) (P : List Deed → Type 0) (call : Call) → Sees Known P → KeepsIf Known (is_spoken call.conn) P → (fid count : ℕ) (o : Option ℕ) (done : List Deed) → conv_of done call.conn fid ≡ o
    → (has_answer (phase_of done call.conn fid) ≡ false → WaitFits done call.conn call.tag fid count) → P done → P (reading_talk call fid count o done)
talk_grows Known P call sees k fid count None done e w p = p
talk_grows Known P call sees k fid count (Some conv) done e w p =
    carried_grows Known P call sees k conv fid count (standing_of done conv).phase done refl (open_stands done call.conn fid conv e)
    (λ none. w (ap (λ (o : Option ℕ). has_answer (phase_in done o)) e ∙ none)) p

pub stored_grows : (Known : Type 0) (P : List Deed → Type 0) (conn : ℕ) → KeepsIf Known (is_spoken conn) P → (o : Option ℕ) (came : Result RpcRequest RpcFault) (done : List Deed) → P done → P (stored o came done)
stored_grows Known P conn k None came done p = p
stored_grows Known P conn k (Some conv) (Err fault) done p = p
stored_grows Known P conn k (Some conv) (Ok request) done p = k done (OfTalk conv (calls.Stored request)) refl tt p

-- a read of a file of lines
pub line_file_grows : (Known : Type 0) (P : List Deed → Type 0) (call : Call) → KeepsIf Known (is_spoken call.conn) P → (fid count : ℕ) (node : Node) (what : Found) (done : List Deed) → (finds_none what ≡ true → WaitFits done call.conn call.tag fid count) → P done → P (reading_line call fid count node what done)
line_file_grows Known P call k fid count node Nothing done w p = k done (OfReplies call.conn (Awaited call.tag fid count)) (same_number call.conn) (w refl) p
line_file_grows Known P call k fid count node TooLong done w p = p
line_file_grows Known P call k fid count node (First line) done w p = line_grows_of Known P (handed_of_met Known P (met_of_spoken Known P call.conn k)) node done p

-- ---- answers that come

-- a read of rpc is told the answer of the conversation that its fid has open
answer_told : (done before : List Deed) (conv : ℕ) (s : Speaker) (answer : RpcAnswer) (wait : Wait) → speaker_of done conv ≡ Some s → (standing_of done conv).phase ≡ Kept answer → reader done s.conn s.fid ≡ Some wait → before ≡ then_took conv wait.count answer done
    → IsToldSomehow before s.conn wait (told wait.count answer)
answer_told done before conv s answer wait found kept e took = inl (record {
  conv = conv;
  answer = answer;
  earlier = done;
  took = took;
  speaks = found ∙ ap (λ (n : ℕ). Some (record { conv = n; conn = s.conn; fid = s.fid })) (speaker_found conv s (speakers done) found)
      ∙ ap (λ (n : ℕ). Some (record { conv = conv; conn = s.conn; fid = n })) (sym (reader_fid done s.conn s.fid wait e));
  kept = kept;
  says = refl;
})

-- a read is told
told_grows : (Known : Type 0) (P : List Deed → Type 0) → KeepsIf Known is_handed P → (conv : ℕ) (s : Speaker) (answer : RpcAnswer) (o : Option Wait) (done : List Deed) → speaker_of done conv ≡ Some s → (standing_of done conv).phase ≡ Kept answer → reader done s.conn s.fid ≡ o → P done → P (give_to conv s.conn answer o done)
told_grows Known P k conv s answer None done found kept e p = p
told_grows Known P k conv s answer (Some wait) done found kept e p = by_cases (fits wait.count answer) refl
  where
    by_cases : (b : Bool) → fits wait.count answer ≡ b → P (OfReplies s.conn (Settled wait.tag (told wait.count answer)) ∷ cond b (OfTalk conv calls.Took ∷ done) done)
    by_cases true is =
        let before = OfTalk conv calls.Took ∷ done in
        let took : before ≡ then_took conv wait.count answer done = sym (ap (λ (b : Bool). cond b before done) is) in
        k before (OfReplies s.conn (Settled wait.tag (told wait.count answer))) refl (reader_fits before s.conn s.fid wait (told wait.count answer) e (answer_told done before conv s answer wait found kept e took)) (k done (OfTalk conv calls.Took) refl tt p)
    by_cases false is =
        let took : done ≡ then_took conv wait.count answer done = sym (ap (λ (b : Bool). cond b (OfTalk conv calls.Took ∷ done) done) is) in
        k done (OfReplies s.conn (Settled wait.tag (told wait.count answer))) refl (reader_fits done s.conn s.fid wait (told wait.count answer) e (answer_told done done conv s answer wait found kept e took)) p

deliver_grows : (Known : Type 0) (P : List Deed → Type 0) → KeepsIf Known is_handed P → (conv : ℕ) (ph : Phase) (o : Option Speaker) (done : List Deed) → (standing_of done conv).phase ≡ ph → speaker_of done conv ≡ o → P done → P (deliver_to conv ph o done)
deliver_grows Known P k conv (Kept answer) (Some s) done kept found p = told_grows Known P k conv s answer (reader_of done s) done found kept refl p
deliver_grows Known P k conv (Kept answer) None done kept found p = p
deliver_grows Known P k conv Resting o done kept found p = p
deliver_grows Known P k conv (Waiting request) o done kept found p = p
deliver_grows Known P k conv Seeking o done kept found p = p
deliver_grows Known P k conv (OnConfirm serial) o done kept found p = p
deliver_grows Known P k conv OnNeedkey o done kept found p = p
deliver_grows Known P k conv OnServer o done kept found p = p

pub delivered_grows : (Known : Type 0) (P : List Deed → Type 0) → KeepsIf Known is_handed P → (conv : ℕ) (done : List Deed) → P done → P (delivered conv done)
delivered_grows Known P k conv done p = deliver_grows Known P k conv (standing_of done conv).phase (speaker_of done conv) done refl refl p

-- what a conversation meets that waited, where it stands and has no question any more
pub resumed_grows : (Known : Type 0) (P : List Deed → Type 0) → Sees Known P → KeepsIf Known is_met P → (came : calls.Call) (o : Option ℕ) (done : List Deed)
    → ((conv : ℕ) → o ≡ Some conv → (Known → stands done conv ≡ true) × (Known → list_any (λ q. eqb q.conv conv) (questions (OfTalk conv came ∷ done)) ≡ false) × FitsIf Known done (OfTalk conv came)) → P done → P (resumed o came done)
resumed_grows Known P sees k came None done so p = p
resumed_grows Known P sees k came (Some conv) done so p =
    let known = so conv refl in
    delivered_grows Known P (handed_of_met Known P k) conv (met conv came done) (follows Known P sees k conv came done known.0 known.1 (k done (OfTalk conv came) refl known.2 p))

-- ---- replies of a user

waits_not_server : (kind : PromptKind) (ph : Phase) → waits_on kind ph ≡ true → is_on_server ph ≡ false
waits_not_server pk.Confirm (OnConfirm serial) e = refl
waits_not_server pk.Confirm Resting e = absurd cc
waits_not_server pk.Confirm (Waiting request) e = absurd cc
waits_not_server pk.Confirm Seeking e = absurd cc
waits_not_server pk.Confirm OnNeedkey e = absurd cc
waits_not_server pk.Confirm OnServer e = absurd cc
waits_not_server pk.Confirm (Kept answer) e = absurd cc
waits_not_server pk.Needkey OnNeedkey e = refl
waits_not_server pk.Needkey Resting e = absurd cc
waits_not_server pk.Needkey (Waiting request) e = absurd cc
waits_not_server pk.Needkey Seeking e = absurd cc
waits_not_server pk.Needkey (OnConfirm serial) e = absurd cc
waits_not_server pk.Needkey OnServer e = absurd cc
waits_not_server pk.Needkey (Kept answer) e = absurd cc

-- it waits for no reply of the other kind
abbrev pub other_kind : PromptKind → PromptKind
other_kind pk.Confirm = pk.Needkey
other_kind pk.Needkey = pk.Confirm

waits_not_other : (kind : PromptKind) (ph : Phase) → waits_on kind ph ≡ true → waits_on (other_kind kind) ph ≡ false
waits_not_other pk.Confirm (OnConfirm serial) e = refl
waits_not_other pk.Confirm Resting e = absurd cc
waits_not_other pk.Confirm (Waiting request) e = absurd cc
waits_not_other pk.Confirm Seeking e = absurd cc
waits_not_other pk.Confirm OnNeedkey e = absurd cc
waits_not_other pk.Confirm OnServer e = absurd cc
waits_not_other pk.Confirm (Kept answer) e = absurd cc
waits_not_other pk.Needkey OnNeedkey e = refl
waits_not_other pk.Needkey Resting e = absurd cc
waits_not_other pk.Needkey (Waiting request) e = absurd cc
waits_not_other pk.Needkey Seeking e = absurd cc
waits_not_other pk.Needkey (OnConfirm serial) e = absurd cc
waits_not_other pk.Needkey OnServer e = absurd cc
waits_not_other pk.Needkey (Kept answer) e = absurd cc

-- nobody asks, where nobody does so of the kind nor of the other
neither : (A : PromptKind → Type 0) (kind : PromptKind) → A kind → A (other_kind kind) → (of : PromptKind) → A of
neither A pk.Confirm one other pk.Confirm = one
neither A pk.Confirm one other pk.Needkey = other
neither A pk.Needkey one other pk.Confirm = other
neither A pk.Needkey one other pk.Needkey = one

-- what is done with questions of a kind leaves those of the other
pub other_askers : (kind : PromptKind) (call : side.Call) (done : List Deed) → askers (OfPrompts kind call ∷ done) (other_kind kind) ≡ askers done (other_kind kind)
other_askers pk.Confirm call done = refl
other_askers pk.Needkey call done = refl

pub this_askers : (kind : PromptKind) (call : side.Call) (done : List Deed) → askers (OfPrompts kind call ∷ done) kind ≡ askers_in (side.after kind (call ∷ prompt_calls done kind))
this_askers pk.Confirm call done = refl
this_askers pk.Needkey call done = refl

said_fits : (Known : Type 0) (kind : PromptKind) (agrees : Bool) (done : List Deed) (conv : ℕ) → AsksNobody Known done conv → FitsIf Known done (OfTalk conv (said_by kind agrees))
said_fits Known pk.Confirm agrees done conv a = a
said_fits Known pk.Needkey agrees done conv a = a

said_questions : (kind : PromptKind) (agrees : Bool) (tag conv : ℕ) (done : List Deed) → questions (OfTalk conv (said_by kind agrees) ∷ OfPrompts kind (side.Replied tag) ∷ done) ≡ questions done
said_questions pk.Confirm agrees tag conv done = refl
said_questions pk.Needkey agrees tag conv done = refl

once_of : (done : List Deed) (kind : PromptKind) → all_prompted done kind ≡ true → each_once (askers done kind) ≡ true
once_of done kind h = (and_parts (list_all (waits_so done kind) (askers done kind)) (each_once (askers done kind)) h).1

pub replying_grows : (Known : Type 0) (P : List Deed → Type 0) → Sees Known P → KeepsIf Known is_met P → (kind : Option PromptKind) (reply : Option Reply) (done : List Deed) → P done → P (replying kind reply done)
replying_grows Known P sees k None reply done p = p
replying_grows Known P sees k (Some kind) None done p = p
replying_grows Known P sees k (Some kind) (Some reply) done p =
    let one = OfPrompts kind (side.Replied reply.tag) ∷ done in
    let q = prompts_of done kind in
    let waits_there = λ (conv : ℕ) (e : asker_of reply.tag q ≡ Some conv) (known : Known). and_parts (stands done conv) (waits_on kind (standing_of done conv).phase) (asker_waits done kind reply.tag conv e ((sees done p known).prompted kind)) in
    resumed_grows Known P sees k (said_by kind reply.agrees) (asker_of reply.tag q) one
    (λ conv e. (
      (λ known. (waits_there conv e known).0),
      (λ known. ap (list_any (λ x. eqb x.conv conv)) (said_questions kind reply.agrees reply.tag conv done) ∙ no_question done conv (sees done p known).asked (waits_not_server kind (standing_of done conv).phase (waits_there conv e known).1)),
      said_fits Known kind reply.agrees one conv
          (λ known. neither (λ of. asks_user one of conv ≡ false) kind
          (ap (list_any (eqb conv)) (this_askers kind (side.Replied reply.tag) done) ∙ replied_none reply.tag conv q e (once_of done kind ((sees done p known).prompted kind)))
          (ap (list_any (eqb conv)) (other_askers kind (side.Replied reply.tag) done) ∙ asks_nobody done (other_kind kind) conv ((sees done p known).prompted (other_kind kind)) (waits_not_other kind (standing_of done conv).phase (waits_there conv e known).1))),
    ))
    (k done (OfPrompts kind (side.Replied reply.tag)) refl tt p)

-- ---- ends

-- the questions of those who leave
pub withdrawn_grows : (Known : Type 0) (P : List Deed → Type 0) → KeepsIf Known is_handed P → (leaving : List ℕ) (done : List Deed) → P done → P (all_withdrawn leaving done)
withdrawn_grows Known P k [] done p = p
withdrawn_grows Known P k (conv ∷ leaving) done p =
    let one = OfPrompts pk.Confirm (side.Withdrawn conv) ∷ done in
    withdrawn_grows Known P k leaving (OfPrompts pk.Needkey (side.Withdrawn conv) ∷ one) (k one (OfPrompts pk.Needkey (side.Withdrawn conv)) refl tt (k done (OfPrompts pk.Confirm (side.Withdrawn conv)) refl tt p))

-- requests are refused that wait in a file that nobody has open
pub delivered_askers : (conv : ℕ) (ph : Phase) (o : Option Speaker) (done : List Deed) (kind : PromptKind) → askers (deliver_to conv ph o done) kind ≡ askers done kind
delivered_askers conv (Kept answer) None done kind = refl
delivered_askers conv (Kept answer) (Some s) done kind = given (reader_of done s)
  where
    took : (count : ℕ) (b : Bool) → askers (cond b (OfTalk conv calls.Took ∷ done) done) kind ≡ askers done kind
    took count true = refl
    took count false = refl

    given : (o : Option Wait) → askers (give_to conv s.conn answer o done) kind ≡ askers done kind
    given None = refl
    given (Some wait) = took wait.count (fits wait.count answer)
delivered_askers conv Resting o done kind = refl
delivered_askers conv (Waiting request) o done kind = refl
delivered_askers conv Seeking o done kind = refl
delivered_askers conv (OnConfirm serial) o done kind = refl
delivered_askers conv OnNeedkey o done kind = refl
delivered_askers conv OnServer o done kind = refl

pub shut_askers : (kind : PromptKind) (conv : ℕ) (done : List Deed) → askers (shut kind conv done) (other_kind kind) ≡ askers done (other_kind kind)
shut_askers kind conv done =
    let one = OfTalk conv calls.Shut ∷ OfPrompts kind (side.Withdrawn conv) ∷ done in
    delivered_askers conv (standing_of one conv).phase (speaker_of one conv) one (other_kind kind) ∙ other_askers kind (side.Withdrawn conv) done

shut_grows : (Known : Type 0) (P : List Deed → Type 0) → KeepsIf Known is_handed P → (kind : PromptKind) (convs : List ℕ) (done : List Deed)
    → (Known → list_all (λ n. not (asks_user done (other_kind kind) n)) convs ≡ true) → P done → P (all_shut kind convs done)
shut_grows Known P k kind [] done none p = p
shut_grows Known P k kind (conv ∷ convs) done none p =
    let one = OfPrompts kind (side.Withdrawn conv) ∷ done in
    let two = OfTalk conv calls.Shut ∷ one in
    let off = λ (known : Known). and_parts (not (asks_user done (other_kind kind) conv)) (list_all (λ n. not (asks_user done (other_kind kind) n)) convs) (none known) in
    shut_grows Known P k kind convs (shut kind conv done)
    (λ known. subst (λ (ns : List ℕ). list_all (λ n. not (list_any (eqb n) ns)) convs ≡ true) (sym (shut_askers kind conv done)) (off known).1)
    (delivered_grows Known P k conv two
    (k one (OfTalk conv calls.Shut) refl
    (λ known. neither (λ of. asks_user one of conv ≡ false) kind
    (ap (list_any (eqb conv)) (this_askers kind (side.Withdrawn conv) done) ∙ withdrawn_none conv (prompts_of done kind))
    (ap (list_any (eqb conv)) (other_askers kind (side.Withdrawn conv) done) ∙ not-true (asks_user done (other_kind kind) conv) (off known).0))
    (k done (OfPrompts kind (side.Withdrawn conv)) refl tt p)))

pub closed_grows : (Known : Type 0) (P : List Deed → Type 0) → Sees Known P → KeepsIf Known is_handed P → (kind : PromptKind) (done : List Deed) → P done → P (closed kind done)
closed_grows Known P sees k kind done p = by_cases (is_some (holder_of done (file_of kind)))
  where
    none : Known → list_all (λ n. not (asks_user done (other_kind kind) n)) (askers done kind) ≡ true
    none known =
        let seen = sees done p known in
        all_weaker (waits_so done kind) (λ n. not (asks_user done (other_kind kind) n)) (askers done kind)
        (λ n e. not_from_false (asks_user done (other_kind kind) n) (asks_nobody done (other_kind kind) n (seen.prompted (other_kind kind)) (waits_not_other kind (standing_of done n).phase (and_parts (stands done n) (waits_on kind (standing_of done n).phase) e).1)))
        (and_parts (list_all (waits_so done kind) (askers done kind)) (each_once (askers done kind)) (seen.prompted kind)).0

    by_cases : (b : Bool) → P (cond b done (all_shut kind (askers done kind) done))
    by_cases true = p
    by_cases false = shut_grows Known P k kind (askers done kind) done none p

-- who leaves, and who stays
pub withdrawn_speakers : (leaving : List ℕ) (done : List Deed) → speakers (all_withdrawn leaving done) ≡ speakers done
withdrawn_speakers [] done = refl
withdrawn_speakers (conv ∷ leaving) done = withdrawn_speakers leaving (OfPrompts pk.Needkey (side.Withdrawn conv) ∷ OfPrompts pk.Confirm (side.Withdrawn conv) ∷ done)

pub withdrawn_fid : (leaving : List ℕ) (done : List Deed) (conn fid : ℕ) → fid_of (all_withdrawn leaving done) conn fid ≡ fid_of done conn fid
withdrawn_fid [] done conn fid = refl
withdrawn_fid (conv ∷ leaving) done conn fid = withdrawn_fid leaving (OfPrompts pk.Needkey (side.Withdrawn conv) ∷ OfPrompts pk.Confirm (side.Withdrawn conv) ∷ done) conn fid

two_within : (conv : ℕ) (done : List Deed) (kind : PromptKind) → Within (askers (OfPrompts pk.Needkey (side.Withdrawn conv) ∷ OfPrompts pk.Confirm (side.Withdrawn conv) ∷ done) kind) (askers done kind)
two_within conv done pk.Confirm = withdrawn_within conv (prompts_of done pk.Confirm)
two_within conv done pk.Needkey = withdrawn_within conv (prompts_of done pk.Needkey)

two_none : (conv : ℕ) (done : List Deed) (kind : PromptKind) → asks_user (OfPrompts pk.Needkey (side.Withdrawn conv) ∷ OfPrompts pk.Confirm (side.Withdrawn conv) ∷ done) kind conv ≡ false
two_none conv done pk.Confirm = withdrawn_none conv (prompts_of done pk.Confirm)
two_none conv done pk.Needkey = withdrawn_none conv (prompts_of done pk.Needkey)

still_none : (n : ℕ) (leaving : List ℕ) (done : List Deed) (kind : PromptKind) → asks_user done kind n ≡ false → asks_user (all_withdrawn leaving done) kind n ≡ false
still_none n [] done kind e = e
still_none n (conv ∷ leaving) done kind e = still_none n leaving (OfPrompts pk.Needkey (side.Withdrawn conv) ∷ OfPrompts pk.Confirm (side.Withdrawn conv) ∷ done) kind (within_any (eqb n) (two_within conv done kind) e)

leaving_step : (n conv : ℕ) (leaving : List ℕ) (done : List Deed) (kind : PromptKind) (b : Bool) → eqb n conv ≡ b → (b || list_any (eqb n) leaving) ≡ true
    → (list_any (eqb n) leaving ≡ true → asks_user (all_withdrawn leaving (OfPrompts pk.Needkey (side.Withdrawn conv) ∷ OfPrompts pk.Confirm (side.Withdrawn conv) ∷ done)) kind n ≡ false)
    → asks_user (all_withdrawn leaving (OfPrompts pk.Needkey (side.Withdrawn conv) ∷ OfPrompts pk.Confirm (side.Withdrawn conv) ∷ done)) kind n ≡ false
leaving_step n conv leaving done kind true f g more =
    let two = OfPrompts pk.Needkey (side.Withdrawn conv) ∷ OfPrompts pk.Confirm (side.Withdrawn conv) ∷ done in
    still_none n leaving two kind (subst (λ (m : ℕ). asks_user two kind m ≡ false) (sym (eqb-true n conv f)) (two_none conv done kind))
leaving_step n conv leaving done kind false f g more = more g

leaving_none : (n : ℕ) (leaving : List ℕ) (done : List Deed) (kind : PromptKind) → list_any (eqb n) leaving ≡ true → asks_user (all_withdrawn leaving done) kind n ≡ false
leaving_none n [] done kind e = absurd cc
leaving_none n (conv ∷ leaving) done kind e = leaving_step n conv leaving done kind (eqb n conv) refl e (λ g. leaving_none n leaving _ kind g)

asked_before : (n : ℕ) (leaving : List ℕ) (before : List Deed) (of : PromptKind) → list_any (eqb n) (askers (all_withdrawn leaving before) of) ≡ true → list_any (eqb n) (askers before of) ≡ true
asked_before n leaving before of there = by_it (list_any (eqb n) (askers before of)) refl
  where
    by_it : (b : Bool) → list_any (eqb n) (askers before of) ≡ b → b ≡ true
    by_it true e = refl
    by_it false e = absurd (let no_way : true ≡ false = sym there ∙ still_none n leaving before of e in cc)

left_more : (test : ℕ → Bool) (n : ℕ) (s : Speaker) (xs : List Speaker) (b : Bool) → list_any (eqb n) (map (λ (x : Speaker). x.conv) (filter (λ (x : Speaker). not (test x.conv)) xs)) ≡ true
    → list_any (eqb n) (map (λ (x : Speaker). x.conv) (cond (not b) (s ∷ filter (λ (x : Speaker). not (test x.conv)) xs) (filter (λ (x : Speaker). not (test x.conv)) xs))) ≡ true
left_more test n s xs true g = g
left_more test n s xs false g = or_more (eqb n s.conv) _ g

left_one : (test : ℕ → Bool) (n : ℕ) (s : Speaker) (xs : List Speaker) (b : Bool) → eqb s.conv n ≡ b → (b || list_any (λ x. eqb x.conv n) xs) ≡ true → test n ≡ false
    → (list_any (λ x. eqb x.conv n) xs ≡ true → list_any (eqb n) (map (λ (x : Speaker). x.conv) (filter (λ (x : Speaker). not (test x.conv)) xs)) ≡ true)
    → list_any (eqb n) (map (λ (x : Speaker). x.conv) (filter (λ (x : Speaker). not (test x.conv)) (s ∷ xs))) ≡ true
left_one test n s xs true f g off more =
    let same = eqb-true s.conv n f in
    let gone : test s.conv ≡ false = ap test same ∙ off in
    let first : eqb n s.conv ≡ true = eq-eqb n s.conv (sym same) in
    rw (gone, first) refl
left_one test n s xs false f g off more = left_more test n s xs (test s.conv) (more g)

left_step : (test : ℕ → Bool) (n : ℕ) (xs : List Speaker) → list_any (λ s. eqb s.conv n) xs ≡ true → test n ≡ false → list_any (eqb n) (map (λ (s : Speaker). s.conv) (filter (λ (s : Speaker). not (test s.conv)) xs)) ≡ true
left_step test n [] e off = absurd cc
left_step test n (s ∷ xs) e off = left_one test n s xs (eqb s.conv n) refl e off (λ g. left_step test n xs g off)

stay_one : (deed : Deed) (done : List Deed) → Prompted done → (kind : PromptKind) (n : ℕ) → list_any (eqb n) (askers (all_withdrawn (ended_by deed done) done) kind) ≡ true → (b : Bool) → stands (deed ∷ done) n ≡ b → b ≡ true
stay_one deed done h kind n there true e = refl
stay_one deed done h kind n there false e =
    let was = asked_before n (ended_by deed done) done kind there in
    let stood = (and_parts (stands done n) (waits_on kind (standing_of done n).phase) (all_there (waits_so done kind) n (askers done kind) (and_parts (list_all (waits_so done kind) (askers done kind)) (each_once (askers done kind)) (h kind)).0 was)).0 in
    absurd (let no_way : true ≡ false = sym there ∙ leaving_none n (ended_by deed done) done kind (left_step (stands (deed ∷ done)) n (speakers done) stood e) in cc)

pub askers_stay : (deed : Deed) (done : List Deed) → Prompted done → speakers (deed ∷ all_withdrawn (ended_by deed done) done) ≡ speakers (deed ∷ done) → AskersStay (all_withdrawn (ended_by deed done) done) deed
askers_stay deed done h same kind =
    let d = all_withdrawn (ended_by deed done) done in
    subst (λ (ss : List Speaker). list_all (λ n. list_any (λ s. eqb s.conv n) ss) (askers d kind) ≡ true) (sym same)
    (all_members (stands (deed ∷ done)) (askers d kind) (λ n there. stay_one deed done h kind n there (stands (deed ∷ done) n) refl))

pub given_up_grows : (Known : Type 0) (P : List Deed → Type 0) → Sees Known P → KeepsIf Known is_handed P → (deed : Deed) (done : List Deed) → speakers (deed ∷ all_withdrawn (ended_by deed done) done) ≡ speakers (deed ∷ done)
    → ((Known → AskersStay (all_withdrawn (ended_by deed done) done) deed) → P (all_withdrawn (ended_by deed done) done) → P (deed ∷ all_withdrawn (ended_by deed done) done)) → P done → P (given_up_by deed done)
given_up_grows Known P sees k deed done same more p =
    let d = all_withdrawn (ended_by deed done) done in
    let q = more (λ known. askers_stay deed done (sees done p known).prompted same) (withdrawn_grows Known P k (ended_by deed done) done p) in
    closed_grows Known P sees k pk.Needkey (closed pk.Confirm (deed ∷ d)) (closed_grows Known P sees k pk.Confirm (deed ∷ d) q)

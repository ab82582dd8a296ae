-- What comes of a question, of a reply of a user, of a file that is closed and of fids that are given up, and what a read and a
-- write of rpc do, is the same of two lists of deeds that are shown alike.
use Rattle.std.proofs.Common.{◌≡◌, ℕ, List, [], ◌∷◌, Bool, true, false, cond, eqb, not, Option, Some, None, Result, Ok, Err, refl, sym, ap, map, ◌∙◌, subst}
use Rattle.std.specs.Prelude.{is_some}
use Rattle.std.specs.List.{list_all, list_any}
use Rattle.std.proofs.lemmas.Bool.{and_parts, not-true}
use Rattle.attr_tuples.specs.declared.attr.Attr.{Attr}
use Rattle.key_lists.specs.CtlLines.{few_of}
use Rattle.roles.specs.declared.answer.StartFault.{StartFault}
use Rattle.roles.specs.Talks.{get, give}
use Rattle.talks.specs.Protocols.{answers, needs, puts, refuses}
use Rattle.talks.specs.Requests.{RpcRequest, starts, reads, writes, asks_info, asks_attributes}
use Rattle.talks.specs.declared.answer.RpcAnswer.TheVariants as a
use Rattle.talks.specs.declared.request.RpcFault.{RpcFault}
use Rattle.side_files.specs.declared.line.PromptKind.{PromptKind}
use Rattle.side_files.specs.declared.line.PromptKind.TheVariants as k
use Rattle.side_files.specs.declared.reply.Reply.{Reply}
use Rattle.side_files.specs.Calls as side
use Rattle.side_files.specs.Questions.{asker_of, Questions}
use Rattle.talks.specs.Answers.{attributes, move_answer}
use Rattle.talks.specs.Calls as calls
use Rattle.talks.specs.Standings.{Begun, Phase, Resting, Waiting, Seeking, OnConfirm, OnNeedkey, OnServer, Kept, Standing, begin, begin_once, carried_out, if_begun, make_move, standing, start_by, started, then_stands}
use Rattle.agent_history.specs.Deeds.{Deed, OfFids, OfKeys, OfReplies, OfConnection, OfTalk, OfPrompts, OfLog, Raised, HandedOut, DropTaken, Swept, Halted, Answered, Awaited, Settled, Flushed, Taken, fid_of, holder_of}
use Rattle.agent_history.specs.SideFiles.{askers, file_of, prompt_calls, prompts_of}
use Rattle.agent_history.specs.Conversations.{all_shut, all_withdrawn, closed, ended_by, given_up_by, met, resumed, shut, standing_of, stands, talk, then_took}
use Rattle.agent_history.specs.Requests.{is_rpc, Call, carried, carrying_out, has_answer, is_resting, reading_answer, reading_talk, replying, said_by, stored}
use Rattle.agent_laws.specs.Laws.{each_once, waits_on}
use Rattle.agent_laws.specs.Redaction.{result_in}
use Rattle.agent_laws.specs.Shown.{ShownResult, ShownRequest, came_by_read, came_to, shown_content, shown_request}
use Rattle.agent_laws.proofs.SizedLaws.{Serves, alike, holder_sized, prompts_sized, serves_met}
use Rattle.agent_laws.proofs.MetLaws.{follows}
use Rattle.agent_laws.proofs.GrowLaws.{KeepsAny, nothing_known, without_tests}
use Rattle.file_tree.specs.declared.tree.FidState.{FidState}
use Rattle.file_tree.specs.Calls.{node_of}
use Rattle.side_files.specs.Questions as asked
use Rattle.agent_laws.proofs.KindLaws.{same_number, is_met}
use Rattle.agent_laws.proofs.PromptLaws.{Prompted, asker_waits, waits_so}
use Rattle.agent_laws.proofs.ShutLaws.{IsGivenUp, closed_known, left_known, others_wait, shut_answers, they_wait}
use Rattle.agent_laws.proofs.ShownLaws.{led_of, Shown, ShownPhase, Idle, Waits, Seeks, AtConfirm, AtNeedkey, AtServer, shown, shown_phase}
use Rattle.agent_laws.proofs.CallLaws.{carried_is_shown, carried_shown, consented_is_shown, consented_shown, failed_shown, heard_is_shown, heard_shown, key_told_is_shown, key_told_shown, roomless_is_shown, shut_is_shown, shut_shown, stored_is_shown, stored_shown, unheard_is_shown}
use Rattle.agent_laws.proofs.AlongLaws.{Along, along_awaited, along_choice, along_delivered, along_met, along_prompts, along_talk, along_took, answer_in, answers_alike}
use Rattle.agent_laws.proofs.ResumeLaws.{AlongMet, Goes, along_resumed, consented_at, done_numbers, follows_up, key_told_at, met_up, moved_up}

-- ---- what comes of a question for the authentication server

pub along_heard : (conv : ℕ) (one other : List ℕ) (a b : List Deed) → Along a b → came_to (standing (calls.Heard one ∷ talk a conv)) ≡ came_to (standing (calls.Heard other ∷ talk b conv)) → AlongMet conv (calls.Heard one) (calls.Heard other) a b
along_heard conv one other a b s came =
    along_talk conv (calls.Heard one) (calls.Heard other) a b s
    (heard_is_shown (talk a conv) one
    ∙ ap (λ (c : ShownResult). heard_shown c (shown (standing_of a conv))) came
    ∙ ap (heard_shown (came_to (standing (calls.Heard other ∷ talk b conv)))) (s.talks conv)
    ∙ sym (heard_is_shown (talk b conv) other)) (done_numbers conv a b s.asked)

pub along_unheard : (conv : ℕ) (a b : List Deed) → Along a b → AlongMet conv calls.Unheard calls.Unheard a b
along_unheard conv a b s =
    along_talk conv calls.Unheard calls.Unheard a b s
    (unheard_is_shown (talk a conv) ∙ ap (failed_shown _) (s.talks conv) ∙ sym (unheard_is_shown (talk b conv))) (done_numbers conv a b s.asked)

pub along_roomless : (conv : ℕ) (a b : List Deed) → Along a b → AlongMet conv calls.Roomless calls.Roomless a b
along_roomless conv a b s =
    along_talk conv calls.Roomless calls.Roomless a b s
    (roomless_is_shown (talk a conv) ∙ ap (failed_shown _) (s.talks conv) ∙ sym (roomless_is_shown (talk b conv))) (done_numbers conv a b s.asked)

-- a conversation that waits for the answer
pub record Asks (conv : ℕ) (one other : calls.Call) (a b : List Deed) : Type 0 where
  pub met : AlongMet conv one other a b
  pub first : Goes (OfTalk conv one ∷ a) conv
  pub second : Goes (OfTalk conv other ∷ b) conv

pub along_server : (o : Option ℕ) (one other : calls.Call) (a b : List Deed) → Along a b → Serves a → Serves b → ((conv : ℕ) → o ≡ Some conv → Asks conv one other a b) → Along (resumed o one a) (resumed o other b)
along_server None one other a b s x y so = s
along_server (Some conv) one other a b s x y so = let it = so conv refl in along_resumed conv one other a b s x y it.met it.first it.second

-- ---- a reply of a user

waiting_up : (kind : PromptKind) (ph : Phase) → waits_on kind ph ≡ true → is_resting ph ≡ false
waiting_up k.Confirm Resting e = absurd cc
waiting_up k.Needkey Resting e = absurd cc
waiting_up kind (Waiting request) e = refl
waiting_up kind Seeking e = refl
waiting_up kind (OnConfirm serial) e = refl
waiting_up kind OnNeedkey e = refl
waiting_up kind OnServer e = refl
waiting_up kind (Kept answer) e = refl

said_met : (kind : PromptKind) (agrees : Bool) (conv : ℕ) (a b : List Deed) → Along a b → AlongMet conv (said_by kind agrees) (said_by kind agrees) a b
said_met k.Confirm agrees conv a b s =
    along_talk conv (calls.Consented agrees) (calls.Consented agrees) a b s (consented_is_shown (talk a conv) agrees ∙ ap (consented_shown agrees) (s.talks conv) ∙ sym (consented_is_shown (talk b conv) agrees)) s.asked
said_met k.Needkey agrees conv a b s =
    along_talk conv calls.KeyTold calls.KeyTold a b s (key_told_is_shown (talk a conv) ∙ ap key_told_shown (s.talks conv) ∙ sym (key_told_is_shown (talk b conv))) s.asked

said_up : (kind : PromptKind) (agrees : Bool) (conv : ℕ) (done : List Deed) → Goes done conv → Goes (OfTalk conv (said_by kind agrees) ∷ done) conv
said_up k.Confirm agrees conv done up = met_up conv (calls.Consented agrees) done (consented_at agrees) up
said_up k.Needkey agrees conv done up = met_up conv calls.KeyTold done key_told_at up

asker_up : (done : List Deed) (kind : PromptKind) (tag conv : ℕ) → asker_of tag (prompts_of done kind) ≡ Some conv → Prompted done → Goes done conv
asker_up done kind tag conv e known =
    waiting_up kind (standing_of done conv).phase (and_parts (stands done conv) (waits_on kind (standing_of done conv).phase) (asker_waits done kind tag conv e (known kind))).1

pub prompts_same : (a b : List Deed) → Along a b → (kind : PromptKind) → prompts_of a kind ≡ prompts_of b kind
prompts_same a b s kind = ap (side.after kind) (alike (λ done. prompt_calls done kind) (λ done. prompts_sized done kind) a b s.public)

along_reply : (kind : PromptKind) (reply : Reply) (a b : List Deed) → Along a b → Serves a → Serves b → Prompted a → Prompted b → Along (replying (Some kind) (Some reply) a) (replying (Some kind) (Some reply) b)
along_reply kind reply a b s x y one other =
    let call = said_by kind reply.agrees in
    let da = OfPrompts kind (side.Replied reply.tag) ∷ a in
    let db = OfPrompts kind (side.Replied reply.tag) ∷ b in
    let now = along_prompts kind (side.Replied reply.tag) a b s in
    let who = ap (asker_of reply.tag) (prompts_same a b s kind) in
    subst (λ (o : Option ℕ). Along (resumed (asker_of reply.tag (prompts_of a kind)) call da) (resumed o call db)) who
    (along_server (asker_of reply.tag (prompts_of a kind)) call call da db now (serves_met a (OfPrompts kind (side.Replied reply.tag)) refl x) (serves_met b (OfPrompts kind (side.Replied reply.tag)) refl y)
    (λ conv e. record { met = said_met kind reply.agrees conv da db now; first = said_up kind reply.agrees conv da (asker_up a kind reply.tag conv e one); second = said_up kind reply.agrees conv db (asker_up b kind reply.tag conv (sym who ∙ e) other) }))

pub along_replying : (kind : Option PromptKind) (reply : Option Reply) (a b : List Deed) → Along a b → Serves a → Serves b → Prompted a → Prompted b → Along (replying kind reply a) (replying kind reply b)
along_replying None reply a b s x y one other = s
along_replying (Some kind) None a b s x y one other = s
along_replying (Some kind) (Some reply) a b s x y one other = along_reply kind reply a b s x y one other

-- ---- requests that wait in a file that is closed

along_shut : (kind : PromptKind) (conv : ℕ) (a b : List Deed) → Along a b → waits_on kind (standing_of a conv).phase ≡ true → waits_on kind (standing_of b conv).phase ≡ true → Along (shut kind conv a) (shut kind conv b)
along_shut kind conv a b s one other =
    let da = OfPrompts kind (side.Withdrawn conv) ∷ a in
    let db = OfPrompts kind (side.Withdrawn conv) ∷ b in
    let now = along_prompts kind (side.Withdrawn conv) a b s in
    along_delivered conv (OfTalk conv calls.Shut ∷ da) (OfTalk conv calls.Shut ∷ db)
    (along_talk conv calls.Shut calls.Shut da db now (shut_is_shown (talk a conv) ∙ ap shut_shown (s.talks conv) ∙ sym (shut_is_shown (talk b conv))) s.asked)
    (shut_answers kind conv a one ∙ sym (shut_answers kind conv b other))

along_all_shut : (kind : PromptKind) (convs : List ℕ) (a b : List Deed) → list_all (λ n. waits_on kind (standing_of a n).phase) convs ≡ true → list_all (λ n. waits_on kind (standing_of b n).phase) convs ≡ true
    → each_once convs ≡ true → Along a b → Along (all_shut kind convs a) (all_shut kind convs b)
along_all_shut kind [] a b one other once s = s
along_all_shut kind (conv ∷ convs) a b one other once s =
    let p = and_parts (waits_on kind (standing_of a conv).phase) (list_all (λ m. waits_on kind (standing_of a m).phase) convs) one in
    let q = and_parts (waits_on kind (standing_of b conv).phase) (list_all (λ m. waits_on kind (standing_of b m).phase) convs) other in
    let apart = and_parts (not (list_any (eqb conv) convs)) (each_once convs) once in
    let off = not-true (list_any (eqb conv) convs) apart.0 in
    along_all_shut kind convs (shut kind conv a) (shut kind conv b) (others_wait kind conv a convs off p.1) (others_wait kind conv b convs off q.1) apart.1 (along_shut kind conv a b s p.0 q.0)

along_closed : (kind : PromptKind) (a b : List Deed) → Prompted a → Prompted b → Along a b → Along (closed kind a) (closed kind b)
along_closed kind a b one other s =
    along_choice (is_some (holder_of a (file_of kind))) (is_some (holder_of b (file_of kind))) a b (all_shut kind (askers a kind) a) (all_shut kind (askers b kind) b)
    (ap is_some (alike (λ done. holder_of done (file_of kind)) (λ done. holder_sized done (file_of kind)) a b s.public)) (λ is. s)
    (λ is.
    let p = and_parts (list_all (waits_so a kind) (askers a kind)) (each_once (askers a kind)) (one kind) in
    let q = and_parts (list_all (waits_so b kind) (askers b kind)) (each_once (askers b kind)) (other kind) in
    let ns : askers a kind ≡ askers b kind = ap (λ (q : Questions). map (λ w. w.conv) (asked.standing q)) (prompts_same a b s kind) in
    subst (λ (convs : List ℕ). Along (all_shut kind convs a) (all_shut kind (askers b kind) b)) (sym ns)
    (along_all_shut kind (askers b kind) a b
    (they_wait a kind (askers b kind) (subst (λ (convs : List ℕ). list_all (waits_so a kind) convs ≡ true) ns p.0))
    (they_wait b kind (askers b kind) q.0) q.1 s))

-- ---- fids that are given up

along_withdrawn : (leaving : List ℕ) (a b : List Deed) → Along a b → Along (all_withdrawn leaving a) (all_withdrawn leaving b)
along_withdrawn [] a b s = s
along_withdrawn (conv ∷ leaving) a b s =
    along_withdrawn leaving (OfPrompts k.Needkey (side.Withdrawn conv) ∷ OfPrompts k.Confirm (side.Withdrawn conv) ∷ a) (OfPrompts k.Needkey (side.Withdrawn conv) ∷ OfPrompts k.Confirm (side.Withdrawn conv) ∷ b)
    (along_prompts k.Needkey (side.Withdrawn conv) (OfPrompts k.Confirm (side.Withdrawn conv) ∷ a) (OfPrompts k.Confirm (side.Withdrawn conv) ∷ b) (along_prompts k.Confirm (side.Withdrawn conv) a b s))

pub along_given_up : (deed : Deed) (a b : List Deed) → IsGivenUp deed a → IsGivenUp deed b → ended_by deed a ≡ ended_by deed b → ((x y : List Deed) → Along x y → Along (deed ∷ x) (deed ∷ y)) → Along a b → Along (given_up_by deed a) (given_up_by deed b)
along_given_up deed a b one other ends more s =
    let da = all_withdrawn (ended_by deed a) a in
    let db = all_withdrawn (ended_by deed b) b in
    let out : Along da db = subst (λ (ns : List ℕ). Along (all_withdrawn ns a) db) (sym ends) (along_withdrawn (ended_by deed b) a b s) in
    let ka = left_known deed a one in
    let kb = left_known deed b other in
    along_closed k.Needkey (closed k.Confirm (deed ∷ da)) (closed k.Confirm (deed ∷ db)) (closed_known k.Confirm (deed ∷ da) ka).prompted (closed_known k.Confirm (deed ∷ db) kb).prompted
    (along_closed k.Confirm (deed ∷ da) (deed ∷ db) ka.prompted kb.prompted (more da db out))

-- ---- a read of rpc

abbrev is_waiting : Phase → Bool
is_waiting (Waiting request) = true
is_waiting Resting = false
is_waiting Seeking = false
is_waiting (OnConfirm serial) = false
is_waiting OnNeedkey = false
is_waiting OnServer = false
is_waiting (Kept answer) = false

abbrev waits_shown : ShownPhase → Bool
waits_shown (Waits request) = true
waits_shown Idle = false
waits_shown (Seeks need) = false
waits_shown (AtConfirm serial need) = false
waits_shown (AtNeedkey need) = false
waits_shown AtServer = false

waits_as : (ph : Phase) (need : _) → waits_shown (shown_phase ph need) ≡ is_waiting ph
waits_as Resting need = refl
waits_as (Waiting request) need = refl
waits_as Seeking need = refl
waits_as (OnConfirm serial) need = refl
waits_as OnNeedkey need = refl
waits_as OnServer need = refl
waits_as (Kept answer) need = refl

waiting_alike : (s t : Standing) → shown s ≡ shown t → is_waiting s.phase ≡ is_waiting t.phase
waiting_alike s t e = sym (waits_as s.phase (led_of s.begun)) ∙ ap (λ (v : Shown). waits_shown v.phase) e ∙ waits_as t.phase (led_of t.begun)

carrying_by : (conv : ℕ) (word : List ℕ) (ph : Phase) (done : List Deed) → carrying_out conv word ph done ≡ cond (is_waiting ph) (met conv (calls.CarriedOut word) done) done
carrying_by conv word Resting done = refl
carrying_by conv word (Waiting request) done = refl
carrying_by conv word Seeking done = refl
carrying_by conv word (OnConfirm serial) done = refl
carrying_by conv word OnNeedkey done = refl
carrying_by conv word OnServer done = refl
carrying_by conv word (Kept answer) done = refl

-- a request that is carried out doesn't rest
carries_up : (s : Standing) (word : List ℕ) (request : RpcRequest) → is_resting (carried_out s word request).phase ≡ false
carries_up s word (starts text) = by_begun s.begun
  where
    by_fault : (template : List Attr) (fault : Option StartFault) → is_resting (started s word template fault).phase ≡ false
    by_fault template (Some fault) = refl
    by_fault template None = moved_up (needs (begin template word).start []) a.Ok

    by_template : (o : Option (List Attr)) → is_resting (start_by s word o).phase ≡ false
    by_template None = refl
    by_template (Some template) = by_fault template (refuses template)

    by_begun : (begun : Option Begun) → is_resting (begin_once s word text begun).phase ≡ false
    by_begun (Some b) = refl
    by_begun None = by_template (few_of text)
carries_up s word reads = by_begun s.begun
  where
    by_begun : (begun : Option Begun) → is_resting (if_begun s begun (λ b. make_move s b get (a.Got (puts b.start b.moves get)))).phase ≡ false
    by_begun None = refl
    by_begun (Some b) = moved_up (needs b.start (get ∷ b.moves)) (move_answer (a.Got (puts b.start b.moves get)) b.key (answers b.start b.moves get))
carries_up s word (writes message) = by_begun s.begun
  where
    by_begun : (begun : Option Begun) → is_resting (if_begun s begun (λ b. make_move s b (give message) a.Ok)).phase ≡ false
    by_begun None = refl
    by_begun (Some b) = moved_up (needs b.start (give message ∷ b.moves)) (move_answer a.Ok b.key (answers b.start b.moves (give message)))
carries_up s word asks_info = refl
carries_up s word asks_attributes = by_begun s.begun
  where
    by_begun : (begun : Option Begun) → is_resting (if_begun s begun (λ b. record { begun = s.begun; phase = Kept (a.Attributes (attributes b.start.template b.key)); starting = s.starting; said = s.said })).phase ≡ false
    by_begun None = refl
    by_begun (Some b) = refl

-- the request that waits, and what it came to
record Carries (done : List Deed) (conv : ℕ) (word : List ℕ) (came : Option ShownResult) : Type 0 where
  pub request : RpcRequest
  pub waits : (standing_of done conv).phase ≡ Waiting request
  pub comes : came ≡ Some (came_to (carried_out (standing_of done conv) word request))

carries : (done : List Deed) (conv : ℕ) (word : List ℕ) (ph : Phase) → (standing_of done conv).phase ≡ ph → is_waiting ph ≡ true → Carries done conv word (came_by_read (standing_of done conv) word ph)
carries done conv word (Waiting request) e is = record { request = request; waits = e; comes = refl }
carries done conv word Resting e is = absurd cc
carries done conv word Seeking e is = absurd cc
carries done conv word (OnConfirm serial) e is = absurd cc
carries done conv word OnNeedkey e is = absurd cc
carries done conv word OnServer e is = absurd cc
carries done conv word (Kept answer) e is = absurd cc

abbrev pub came_at : List Deed → ℕ → List ℕ → Option ShownResult
came_at done conv word = came_by_read (standing_of done conv) word (standing_of done conv).phase

one_came : (c d : ShownResult) → Some c ≡ Some d → c ≡ d
one_came c d e = cc

carried_up : (conv : ℕ) (word : List ℕ) (done : List Deed) (request : RpcRequest) → (standing_of done conv).phase ≡ Waiting request → Goes (OfTalk conv (calls.CarriedOut word) ∷ done) conv
carried_up conv word done request e =
    ap (λ (x : Bool). is_resting (standing (cond x (calls.CarriedOut word ∷ talk done conv) (talk done conv))).phase) (same_number conv)
    ∙ ap (λ (ph : Phase). is_resting (then_stands (standing_of done conv) ph (calls.CarriedOut word)).phase) e
    ∙ carries_up (standing_of done conv) word request

-- what the request came to, and that it doesn't rest then
record Carried (conv : ℕ) (a b : List Deed) : Type 0 where
  pub now : Along a b
  pub first : Goes a conv
  pub second : Goes b conv

carried_both : (conv : ℕ) (one other : List ℕ) (a b : List Deed) → Along a b → Serves a → Serves b → Carries a conv one (came_at a conv one) → Carries b conv other (came_at b conv other) → came_at a conv one ≡ came_at b conv other
    → Carried conv (met conv (calls.CarriedOut one) a) (met conv (calls.CarriedOut other) b)
carried_both conv one other a b s u v p q e =
    let came = one_came (came_to (carried_out (standing_of a conv) one p.request)) (came_to (carried_out (standing_of b conv) other q.request)) (sym p.comes ∙ e ∙ q.comes) in
    let now : AlongMet conv (calls.CarriedOut one) (calls.CarriedOut other) a b =
    along_talk conv (calls.CarriedOut one) (calls.CarriedOut other) a b s
    (carried_is_shown (talk a conv) one p.request p.waits
    ∙ ap (λ (c : ShownResult). carried_shown c (shown (standing_of a conv))) came
    ∙ ap (carried_shown (came_to (carried_out (standing_of b conv) other q.request))) (s.talks conv)
    ∙ sym (carried_is_shown (talk b conv) other q.request q.waits)) s.asked in
    record {
      now = along_met conv (calls.CarriedOut one) (calls.CarriedOut other) a b s u v now;
      first = follows_up conv (calls.CarriedOut one) a (carried_up conv one a p.request p.waits);
      second = follows_up conv (calls.CarriedOut other) b (carried_up conv other b q.request q.waits);
    }

carried_choice : (conv : ℕ) (x y : Bool) (one other a b : List Deed) → x ≡ y → (y ≡ true → Carried conv one other) → Carried conv a b → Carried conv (cond x one a) (cond y other b)
carried_choice conv x true one other a b e p q = rw e (p refl)
carried_choice conv x false one other a b e p q = rw e q

along_carried : (conv : ℕ) (one other : List ℕ) (a b : List Deed) → Along a b → Serves a → Serves b → Goes a conv → Goes b conv → came_at a conv one ≡ came_at b conv other → Carried conv (carried conv one a) (carried conv other b)
along_carried conv one other a b s u v first second e =
    let x = (standing_of a conv).phase in
    let y = (standing_of b conv).phase in
    let same_wait = waiting_alike (standing_of a conv) (standing_of b conv) (s.talks conv) in
    subst (λ (d : List Deed). Carried conv d (carried conv other b)) (sym (carrying_by conv one x a))
    (subst (λ (d : List Deed). Carried conv (cond (is_waiting x) (met conv (calls.CarriedOut one) a) a) d) (sym (carrying_by conv other y b))
    (carried_choice conv (is_waiting x) (is_waiting y) (met conv (calls.CarriedOut one) a) (met conv (calls.CarriedOut other) b) a b same_wait
    (λ is. carried_both conv one other a b s u v (carries a conv one x refl (same_wait ∙ is)) (carries b conv other y refl is) e)
    (record { now = s; first = first; second = second })))

answer_by : (call : Call) (conv fid count : ℕ) (ph : Phase) (done : List Deed) → reading_answer call conv fid count ph done ≡ cond (has_answer ph) (then_took conv count (answer_in ph) done) (OfReplies call.conn (Awaited call.tag fid count) ∷ done)
answer_by call conv fid count (Kept answer) done = refl
answer_by call conv fid count Resting done = refl
answer_by call conv fid count (Waiting request) done = refl
answer_by call conv fid count Seeking done = refl
answer_by call conv fid count (OnConfirm serial) done = refl
answer_by call conv fid count OnNeedkey done = refl
answer_by call conv fid count OnServer done = refl

abbrev pub with_word : ℕ → ℕ → List ℕ → Call
with_word conn tag word = record { conn = conn; tag = tag; word = word }

along_answer : (conn tag : ℕ) (one other : List ℕ) (conv fid most least : ℕ) (p q : Phase) (a b : List Deed) → Along a b → has_answer p ≡ has_answer q → is_rpc (node_of (fid_of b conn fid)) ≡ true
    → Along (reading_answer (with_word conn tag one) conv fid most p a) (reading_answer (with_word conn tag other) conv fid least q b)
along_answer conn tag one other conv fid most least p q a b s e rpc =
    subst (λ (d : List Deed). Along d (reading_answer (with_word conn tag other) conv fid least q b)) (sym (answer_by (with_word conn tag one) conv fid most p a))
    (subst (λ (d : List Deed). Along (cond (has_answer p) (then_took conv most (answer_in p) a) (OfReplies conn (Awaited tag fid most) ∷ a)) d) (sym (answer_by (with_word conn tag other) conv fid least q b))
    (along_choice (has_answer p) (has_answer q) _ _ _ _ e (λ is. along_took conv most least (answer_in p) (answer_in q) a b s)
    (λ is. along_awaited conn tag fid most least a b s (λ other_file. absurd (let no_way : true ≡ false = sym rpc ∙ other_file in cc)))))

-- no fid changes by what a conversation meets
fid_stays : (conn fid : ℕ) (o : Option FidState) → KeepsAny is_met (λ done. fid_of done conn fid ≡ o)
fid_stays conn fid o done (OfTalk conv call) is p = p
fid_stays conn fid o done (OfPrompts about doing) is p = p
fid_stays conn fid o done (OfLog doing) is p = p
fid_stays conn fid o done (Raised conv) is p = p
fid_stays conn fid o done (OfReplies at (Settled tag body)) is p = p
fid_stays conn fid o done (OfReplies at (Answered tag body)) is p = absurd cc
fid_stays conn fid o done (OfReplies at (Awaited tag f count)) is p = absurd cc
fid_stays conn fid o done (OfReplies at (Flushed tag)) is p = absurd cc
fid_stays conn fid o done (OfReplies at Taken) is p = absurd cc
fid_stays conn fid o done (OfFids at deed) is p = absurd cc
fid_stays conn fid o done (OfKeys at deed) is p = absurd cc
fid_stays conn fid o done (OfConnection at deed) is p = absurd cc
fid_stays conn fid o done HandedOut is p = absurd cc
fid_stays conn fid o done DropTaken is p = absurd cc
fid_stays conn fid o done Swept is p = absurd cc
fid_stays conn fid o done Halted is p = absurd cc

carried_fid : (conn fid conv : ℕ) (word : List ℕ) (ph : Phase) (done : List Deed) → fid_of (carrying_out conv word ph done) conn fid ≡ fid_of done conn fid
carried_fid conn fid conv word (Waiting request) done =
    follows ⊥ (λ d. fid_of d conn fid ≡ fid_of done conn fid) (nothing_known (λ d. fid_of d conn fid ≡ fid_of done conn fid)) (without_tests is_met (λ d. fid_of d conn fid ≡ fid_of done conn fid) (fid_stays conn fid (fid_of done conn fid))) conv (calls.CarriedOut word) done (λ known. absurd known) (λ known. absurd known) refl
carried_fid conn fid conv word Resting done = refl
carried_fid conn fid conv word Seeking done = refl
carried_fid conn fid conv word (OnConfirm serial) done = refl
carried_fid conn fid conv word OnNeedkey done = refl
carried_fid conn fid conv word OnServer done = refl
carried_fid conn fid conv word (Kept answer) done = refl

-- where there is such a conversation
abbrev pub ReadsOn : List Deed → Option ℕ → Type 0
ReadsOn done o = (conv : ℕ) → o ≡ Some conv → Goes done conv

pub along_talk_read : (conn tag fid most least : ℕ) (one other : List ℕ) (o : Option ℕ) (a b : List Deed) → Along a b → Serves a → Serves b → ReadsOn a o → ReadsOn b o → result_in a o one ≡ result_in b o other → is_rpc (node_of (fid_of b conn fid)) ≡ true
    → Along (reading_talk (with_word conn tag one) fid most o a) (reading_talk (with_word conn tag other) fid least o b)
along_talk_read conn tag fid most least one other None a b s u v p q e rpc = s
along_talk_read conn tag fid most least one other (Some conv) a b s u v p q e rpc =
    let it = along_carried conv one other a b s u v (p conv refl) (q conv refl) e in
    let x = standing_of (carried conv one a) conv in
    let y = standing_of (carried conv other b) conv in
    along_answer conn tag one other conv fid most least x.phase y.phase (carried conv one a) (carried conv other b) it.now (answers_alike x y (it.now.talks conv) it.first it.second)
    (ap (λ (c : Option FidState). is_rpc (node_of c)) (carried_fid conn fid conv other (standing_of b conv).phase b) ∙ rpc)

-- ---- a write of rpc

rests : (ph : Phase) → is_resting ph ≡ true → ph ≡ Resting
rests Resting e = refl
rests (Waiting request) e = absurd cc
rests Seeking e = absurd cc
rests (OnConfirm serial) e = absurd cc
rests OnNeedkey e = absurd cc
rests OnServer e = absurd cc
rests (Kept answer) e = absurd cc

abbrev pub WritesOn : List Deed → Option ℕ → Type 0
WritesOn done o = (conv : ℕ) → o ≡ Some conv → is_resting (standing_of done conv).phase ≡ true

one_request : (x y : ShownRequest) → Some x ≡ Some y → x ≡ y
one_request x y e = cc

pub along_stored : (o : Option ℕ) (one other : Result RpcRequest RpcFault) (a b : List Deed) → Along a b → WritesOn a o → WritesOn b o → shown_content one ≡ shown_content other → Along (stored o one a) (stored o other b)
along_stored None one other a b s p q e = s
along_stored (Some conv) (Err fault) (Err again) a b s p q e = s
along_stored (Some conv) (Err fault) (Ok other) a b s p q e = absurd cc
along_stored (Some conv) (Ok one) (Err fault) a b s p q e = absurd cc
along_stored (Some conv) (Ok one) (Ok other) a b s p q e =
    along_talk conv (calls.Stored one) (calls.Stored other) a b s
    (stored_is_shown (talk a conv) one (rests (standing_of a conv).phase (p conv refl))
    ∙ ap (λ (x : ShownRequest). stored_shown x (shown (standing_of a conv))) (one_request (shown_request one) (shown_request other) e)
    ∙ ap (stored_shown (shown_request other)) (s.talks conv)
    ∙ sym (stored_is_shown (talk b conv) other (rests (standing_of b conv).phase (q conv refl)))) s.asked

-- Between events no conversation is left at a search: whatever an event brings to one, so many searches follow as are enough.
use Rattle.std.proofs.Common.{◌≡◌, ℕ, zero, suc, ◌+◌, List, [], ◌∷◌, length, Bool, true, false, cond, eqb, ltb, ◌&&◌, not, Option, Some, None, Result, Ok, Err, refl, sym, ap, subst, ◌∙◌}
use Rattle.std.specs.Prelude.{is_some}
use Rattle.std.proofs.lemmas.Bool.{eqb-true}
use Rattle.nine.specs.declared.message.RMsg.{RMsg}
use Rattle.nine.specs.declared.message.RBody.{RBody}
use Rattle.nine.specs.declared.message.TBody.{TBody}
use Rattle.nine.specs.declared.message.TBody.TheVariants as t
use Rattle.file_tree.specs.declared.tree.Node.{Node}
use Rattle.file_tree.specs.declared.tree.Node.TheVariants.{Root, Factotum, Rpc, Ctl, Confirm, Needkey, Proto, Log}
use Rattle.file_tree.specs.Tree.{lead_to}
use Rattle.file_tree.specs.Calls.{node_of}
use Rattle.key_lists.specs.CtlLines.{CtlLine, carried_out, lines_of}
use Rattle.key_lists.specs.Lists.{KeyList}
use Rattle.talks.specs.Requests.{RpcRequest}
use Rattle.talks.specs.Requests as rpc
use Rattle.talks.specs.declared.answer.RpcAnswer.{RpcAnswer}
use Rattle.talks.specs.declared.request.RpcFault.{RpcFault}
use Rattle.side_files.specs.declared.line.PromptKind.{PromptKind}
use Rattle.side_files.specs.declared.line.PromptKind.TheVariants as pk
use Rattle.side_files.specs.declared.reply.Reply.{Reply}
use Rattle.side_files.specs.Calls as side
use Rattle.side_files.specs.Lines.{Found as Line, Nothing as NoLine, TooLong, First, found}
use Rattle.side_files.specs.Questions.{asker_of}
use Rattle.side_files.specs.Replies as prompt
use Rattle.talks.specs.declared.said.Asking.{Asking}
use Rattle.talks.specs.Calls as calls
use Rattle.talks.specs.Lines.{log_lines}
use Rattle.talks.specs.Standings.{Phase, Resting, Waiting, Seeking, OnConfirm, OnNeedkey, OnServer, Kept, Standing, finds, sought, sought_if, standing, then_stands}
use Rattle.agent_history.specs.declared.event.Event.{Event}
use Rattle.agent_history.specs.declared.event.Event.TheVariants.{Request, Hang, Answer, NoAnswer, NoRoom, Take, TakeAsk, Stop}
use Rattle.agent_history.specs.Deeds.{Deed, OfFids, OfKeys, OfConnection, OfTalk, OfPrompts, Swept, Halted, Versioned, Listed, Clunked, Entered, Hung, fid_of, holder_of, is_debug, is_halted, keys_of, msize_of, was_hung, was_opened}
use Rattle.agent_history.specs.Replies.{Wait, has_settled, reader, swept, untaken, waits}
use Rattle.agent_history.specs.SideFiles.{all_served, file_of, is_line_file, kind_at, line_read, lines_in, prompts_of, serve_first, serve_read, serve_reads, served, served_to, askers}
use Rattle.agent_history.specs.Conversations.{Due, NoneDue, DropDue, QuestionDue, Speaker, all_shut, all_withdrawn, asker, asking, closed, conv_of, deliver_to, delivered, due, ended_by, fits, give_to, given_up_by, logged, met, prompting, raising, reader_of, resumed, seeking, seeking_all, shut, sought_once, speaker_of, standing_of, talk, then_logged, then_raised, then_sought, then_took}
use Rattle.agent_history.specs.Requests.{Call, after, after_frame, after_granted, agreed, answered, body_to, call_of, carried, carrying_out, effective, granted, is_rpc, line_deed, lines_done, reading, reading_answer, reading_line, reading_talk, replied, replying, said_by, stored, walking}
use Rattle.agent_history.specs.Histories.{History, deeds, does, entered, handing, most_events, taking}
use Rattle.driven_agents.specs.Keys.{AreKeys}
use Rattle.driven_agents.proofs.CallLemmas.{logged_same, other_talk}
use Rattle.driven_agents.proofs.KeyLaws.{keys_are_keys}
use Rattle.world_promises.specs.OpenSearches.{NoSearchIsOpen, is_searching}
use Rattle.world_promises.proofs.BegunSearches.{searches_suffice}
use Rattle.world_promises.proofs.MetDeeds.{most_searches}
use Rattle.world_promises.proofs.RestLaws.{seeks_need}
use Rattle.world_promises.proofs.SearchDeeds.{Rests, finds_for, is_seeking, rests_so, seeks, still, times, unsought}
use Rattle.world_promises.proofs.TalkSides.{stands_here}

-- no conversation is left at a search
abbrev Calm : List Deed → Type 0
Calm done = (conv : ℕ) → (standing_of done conv).phase ≡ Seeking → ⊥

-- where what each met is the same
calm_same : (from done : List Deed) → ((conv : ℕ) → talk done conv ≡ talk from conv) → Calm from → Calm done
calm_same from done same calm conv on = calm conv (ap (λ l. (standing l).phase) (sym (same conv)) ∙ on)

calm_either : (b : Bool) (one other : List Deed) → Calm one → Calm other → Calm (cond b one other)
calm_either true one other p q = p
calm_either false one other p q = q

-- ---- deeds that bring a conversation nothing

same_either : {X : Type 0} (f : List Deed → X) (b : Bool) (one other : List Deed) (x : X) → f one ≡ x → f other ≡ x → f (cond b one other) ≡ x
same_either f true one other x p q = p
same_either f false one other x p q = q

line_talk : (node : Node) (done : List Deed) (c : ℕ) → talk (line_read node done) c ≡ talk done c
line_talk Confirm done c = refl
line_talk Needkey done c = refl
line_talk Log done c = refl
line_talk Root done c = refl
line_talk Factotum done c = refl
line_talk Rpc done c = refl
line_talk Ctl done c = refl
line_talk Proto done c = refl

serve_talk : (node : Node) (conn tag : ℕ) (what : Line) (done : List Deed) (c : ℕ) → talk (serve_read node conn tag what done) c ≡ talk done c
serve_talk node conn tag NoLine done c = refl
serve_talk node conn tag TooLong done c = refl
serve_talk node conn tag (First line) done c = line_talk node done c

first_talk : (node : Node) (conn : ℕ) (o : Option Wait) (done : List Deed) (c : ℕ) → talk (serve_first node conn o done) c ≡ talk done c
first_talk node conn None done c = refl
first_talk node conn (Some wait) done c = serve_talk node conn wait.tag (found wait.count (lines_in done node)) done c

reads_talk : (n : ℕ) (node : Node) (conn fid : ℕ) (done : List Deed) (c : ℕ) → talk (serve_reads n node conn fid done) c ≡ talk done c
reads_talk zero node conn fid done c = refl
reads_talk (suc n) node conn fid done c =
    reads_talk n node conn fid (serve_first node conn (reader done conn fid) done) c ∙ first_talk node conn (reader done conn fid) done c

holder_talk : (node : Node) (o : Option (ℕ × ℕ)) (done : List Deed) (c : ℕ) → talk (served_to node o done) c ≡ talk done c
holder_talk node None done c = refl
holder_talk node (Some holder) done c = reads_talk (length (waits done holder.0)) node holder.0 holder.1 done c

all_talk : (done : List Deed) (c : ℕ) → talk (all_served done) c ≡ talk done c
all_talk done c =
    let one = served Confirm done in
    let two = served Needkey one in
    holder_talk Log (holder_of two Log) two c ∙ (holder_talk Needkey (holder_of one Needkey) one c ∙ holder_talk Confirm (holder_of done Confirm) done c)

logged_talk : (lines : List (List ℕ)) (done : List Deed) (c : ℕ) → talk (logged lines done) c ≡ talk done c
logged_talk lines done c = logged_same (λ d. talk d c) (λ line d. refl) lines done

raising_talk : (conv : ℕ) (ph : Phase) (done : List Deed) (c : ℕ) → talk (raising conv ph done) c ≡ talk done c
raising_talk conv OnServer done c = refl
raising_talk conv Resting done c = refl
raising_talk conv (Waiting request) done c = refl
raising_talk conv Seeking done c = refl
raising_talk conv (OnConfirm serial) done c = refl
raising_talk conv OnNeedkey done c = refl
raising_talk conv (Kept answer) done c = refl

withdrawn_talk : (leaving : List ℕ) (done : List Deed) (c : ℕ) → talk (all_withdrawn leaving done) c ≡ talk done c
withdrawn_talk [] done c = refl
withdrawn_talk (conv ∷ more) done c = withdrawn_talk more (OfPrompts pk.Needkey (side.Withdrawn conv) ∷ OfPrompts pk.Confirm (side.Withdrawn conv) ∷ done) c

-- a user is asked
prompting_same : {X : Type 0} (f : List Deed → X) → ((kind : PromptKind) (call : side.Call) (d : List Deed) → f (OfPrompts kind call ∷ d) ≡ f d) → (conv : ℕ) (came : calls.Found) (done : List Deed) → f (prompting conv came done) ≡ f done
prompting_same f same conv (calls.AsksConsent key) done = same _ _ done
prompting_same f same conv calls.AsksKey done = same _ _ done
prompting_same f same conv (calls.Chosen key) done = refl
prompting_same f same conv calls.Denied done = refl
prompting_same f same conv calls.NoneServes done = refl
prompting_same f same conv (calls.Offered list) done = refl
prompting_same f same conv (calls.Picked place) done = refl

-- ---- searches

goes : (n : ℕ) (next : List Deed) (conv : ℕ) (list : KeyList) (asks : Asking) (s : Standing) → keys_of next ≡ list → asking next ≡ asks → standing_of next conv ≡ s → Rests n list asks s → Rests n (keys_of next) (asking next) (standing_of next conv)
goes n next conv list asks s k a e r =
    subst (λ l. Rests n l (asking next) (standing_of next conv)) (sym k) (subst (λ x. Rests n list x (standing_of next conv)) (sym a) (subst (λ x. Rests n list asks x) (sym e) r))

once_stands : (conv : ℕ) (done : List Deed) → (standing_of done conv).phase ≡ Seeking → standing_of (sought_once conv done) conv ≡ sought (standing_of done conv) (finds (standing_of done conv) (asking done) (keys_of done))
once_stands conv done on =
    let s = standing_of done conv in
    let came = finds s (asking done) (keys_of done) in
    let is = finds_for s (asking done) (keys_of done) (seeks_need (talk done conv) on) in
    ap (λ p. standing_of (seeking conv p done) conv) on
    ∙ (prompting_same (λ d. standing_of d conv) (λ kind call d. refl) conv came (OfTalk conv (calls.Sought came) ∷ done)
    ∙ (stands_here conv (calls.Sought came) done s refl ∙ (ap (λ p. then_stands s p (calls.Sought came)) on ∙ ap (λ b. sought_if b s came) is)))

seeking_same : {X : Type 0} (f : List Deed → X) → ((kind : PromptKind) (call : side.Call) (d : List Deed) → f (OfPrompts kind call ∷ d) ≡ f d) → (conv : ℕ) → ((call : calls.Call) (d : List Deed) → f (OfTalk conv call ∷ d) ≡ f d) → (ph : Phase) (done : List Deed) → f (seeking conv ph done) ≡ f done
seeking_same f prompts conv talks Seeking done =
    let came = finds (standing_of done conv) (asking done) (keys_of done) in
    prompting_same f prompts conv came (OfTalk conv (calls.Sought came) ∷ done) ∙ talks (calls.Sought came) done
seeking_same f prompts conv talks Resting done = refl
seeking_same f prompts conv talks (Waiting request) done = refl
seeking_same f prompts conv talks (OnConfirm serial) done = refl
seeking_same f prompts conv talks OnNeedkey done = refl
seeking_same f prompts conv talks OnServer done = refl
seeking_same f prompts conv talks (Kept answer) done = refl

once_same : {X : Type 0} (f : List Deed → X) → ((kind : PromptKind) (call : side.Call) (d : List Deed) → f (OfPrompts kind call ∷ d) ≡ f d) → (conv : ℕ) → ((call : calls.Call) (d : List Deed) → f (OfTalk conv call ∷ d) ≡ f d) → (done : List Deed) → f (sought_once conv done) ≡ f done
once_same f prompts conv talks done = seeking_same f prompts conv talks (standing_of done conv).phase done

times_same : {X : Type 0} (f : List Deed → X) → ((kind : PromptKind) (call : side.Call) (d : List Deed) → f (OfPrompts kind call ∷ d) ≡ f d) → (conv : ℕ) → ((call : calls.Call) (d : List Deed) → f (OfTalk conv call ∷ d) ≡ f d) → (n : ℕ) (done : List Deed) → f (times n conv done) ≡ f done
times_same f prompts conv talks zero done = refl
times_same f prompts conv talks (suc n) done = times_same f prompts conv talks n (sought_once conv done) ∙ once_same f prompts conv talks done

searched_off : (n conv : ℕ) (done : List Deed) → Rests n (keys_of done) (asking done) (standing_of done conv) → (standing_of (times n conv done) conv).phase ≡ Seeking → ⊥
searched_off zero conv done r = r
searched_off (suc n) conv done r = by_phase (searched_off n conv (sought_once conv done)) (is_seeking (standing_of done conv).phase) refl
  where
    next : List Deed
    next = sought_once conv done

    by_phase : (Rests n (keys_of next) (asking next) (standing_of next conv) → (standing_of (times n conv next) conv).phase ≡ Seeking → ⊥) → (b : Bool) → is_seeking (standing_of done conv).phase ≡ b → (standing_of (times n conv next) conv).phase ≡ Seeking → ⊥
    by_phase again false e =
        let same : next ≡ done = still conv done (standing_of done conv).phase e in
        again (subst (λ d. Rests n (keys_of d) (asking d) (standing_of d conv)) (sym same) (rests_so n (keys_of done) (asking done) (standing_of done conv) (unsought (standing_of done conv).phase e)))
    by_phase again true e =
        let on = seeks (standing_of done conv).phase e in
        again (goes n next conv (keys_of done) (asking done) (sought (standing_of done conv) (finds (standing_of done conv) (asking done) (keys_of done)))
        (once_same keys_of (λ kind call d. refl) conv (λ call d. refl) done) (once_same asking (λ kind call d. refl) conv (λ call d. refl) done) (once_stands conv done on) (r on))

all_times : (starting : Bool) (conv : ℕ) (done : List Deed) → seeking_all starting conv done ≡ times (most_searches starting) conv done
all_times true conv done = refl
all_times false conv done = refl

-- all are calm but one, which searches so often
sought_calm : (conv : ℕ) (done : List Deed) → AreKeys (keys_of done).keys → ((c : ℕ) → eqb conv c ≡ false → (standing_of done c).phase ≡ Seeking → ⊥) → Calm (then_sought conv done)
sought_calm conv done keys others c = by_own (eqb conv c) refl
  where
    n : ℕ
    n = most_searches (standing_of done conv).starting

    far : then_sought conv done ≡ times n conv done
    far = all_times (standing_of done conv).starting conv done

    own : (standing_of (times n conv done) conv).phase ≡ Seeking → ⊥
    own = searched_off n conv done (searches_suffice (talk done conv) (keys_of done) (asking done) keys)

    by_own : (b : Bool) → eqb conv c ≡ b → (standing_of (then_sought conv done) c).phase ≡ Seeking → ⊥
    by_own true e on = own (ap (λ x. (standing_of (times n conv done) x).phase) (eqb-true conv c e) ∙ (ap (λ d. (standing_of d c).phase) (sym far) ∙ on))
    by_own false e on =
        others c e (ap (λ l. (standing l).phase) (sym (ap (λ d. talk d c) far ∙ times_same (λ d. talk d c) (λ kind call d. refl) conv (λ call d. other_talk conv c call d e) n done)) ∙ on)

met_calm : (conv : ℕ) (call : calls.Call) (done : List Deed) → AreKeys (keys_of done).keys → Calm done → Calm (met conv call done)
met_calm conv call done keys calm =
    let one = OfTalk conv call ∷ done in
    let two = then_sought conv one in
    let three = then_raised conv two in
    let four = then_logged conv (standing_of done conv) three in
    calm_same two (all_served four)
    (λ c. all_talk four c ∙ (logged_talk (log_lines (is_debug three) conv (standing_of done conv) (standing_of three conv)) three c ∙ raising_talk conv (standing_of two conv).phase two c))
    (sought_calm conv one keys (λ c e on. calm c (ap (λ l. (standing l).phase) (sym (other_talk conv c call done e)) ∙ on)))

-- ---- calls behind which nothing is searched for

abbrev LeavesCalm : calls.Call → Type 0
LeavesCalm call = (s : Standing) (ph : Phase) → (s.phase ≡ Seeking → ⊥) → (ph ≡ Seeking → ⊥) → (then_stands s ph call).phase ≡ Seeking → ⊥

took_calm : LeavesCalm calls.Took
took_calm s Resting p q = p
took_calm s (Waiting request) p q = p
took_calm s Seeking p q = absurd (q refl)
took_calm s (OnConfirm serial) p q = p
took_calm s OnNeedkey p q = p
took_calm s OnServer p q = p
took_calm s (Kept answer) p q = λ e. cc e

shut_calm : LeavesCalm calls.Shut
shut_calm s Resting p q = p
shut_calm s (Waiting request) p q = p
shut_calm s Seeking p q = absurd (q refl)
shut_calm s (OnConfirm serial) p q = λ e. cc e
shut_calm s OnNeedkey p q = λ e. cc e
shut_calm s OnServer p q = p
shut_calm s (Kept answer) p q = p

stored_calm : (request : RpcRequest) → LeavesCalm (calls.Stored request)
stored_calm request s Resting p q = λ e. cc e
stored_calm request s (Waiting other) p q = p
stored_calm request s Seeking p q = absurd (q refl)
stored_calm request s (OnConfirm serial) p q = p
stored_calm request s OnNeedkey p q = p
stored_calm request s OnServer p q = p
stored_calm request s (Kept answer) p q = p

call_calm : (call : calls.Call) → LeavesCalm call → (conv : ℕ) (done : List Deed) → Calm done → Calm (OfTalk conv call ∷ done)
call_calm call leaves conv done calm c = by_own (eqb conv c) refl
  where
    own : (standing_of (OfTalk conv call ∷ done) conv).phase ≡ Seeking → ⊥
    own on = leaves (standing_of done conv) (standing_of done conv).phase (calm conv) (calm conv) (ap (λ (s : Standing). s.phase) (sym (stands_here conv call done (standing_of done conv) refl)) ∙ on)

    by_own : (b : Bool) → eqb conv c ≡ b → (standing_of (OfTalk conv call ∷ done) c).phase ≡ Seeking → ⊥
    by_own true e on = own (ap (λ x. (standing_of (OfTalk conv call ∷ done) x).phase) (eqb-true conv c e) ∙ on)
    by_own false e on = calm c (ap (λ l. (standing l).phase) (sym (other_talk conv c call done e)) ∙ on)

-- ---- answers that are delivered

then_took_calm : (conv count : ℕ) (answer : RpcAnswer) (done : List Deed) → Calm done → Calm (then_took conv count answer done)
then_took_calm conv count answer done calm = calm_either (fits count answer) (OfTalk conv calls.Took ∷ done) done (call_calm calls.Took took_calm conv done calm) calm

give_calm : (conv conn : ℕ) (answer : RpcAnswer) (o : Option Wait) (done : List Deed) → Calm done → Calm (give_to conv conn answer o done)
give_calm conv conn answer None done calm = calm
give_calm conv conn answer (Some wait) done calm = then_took_calm conv wait.count answer done calm

deliver_calm : (conv : ℕ) (ph : Phase) (o : Option Speaker) (done : List Deed) → Calm done → Calm (deliver_to conv ph o done)
deliver_calm conv (Kept answer) (Some s) done calm = give_calm conv s.conn answer (reader_of done s) done calm
deliver_calm conv (Kept answer) None done calm = calm
deliver_calm conv Resting o done calm = calm
deliver_calm conv (Waiting request) o done calm = calm
deliver_calm conv Seeking o done calm = calm
deliver_calm conv (OnConfirm serial) o done calm = calm
deliver_calm conv OnNeedkey o done calm = calm
deliver_calm conv OnServer o done calm = calm

delivered_calm : (conv : ℕ) (done : List Deed) → Calm done → Calm (delivered conv done)
delivered_calm conv done calm = deliver_calm conv (standing_of done conv).phase (speaker_of done conv) done calm

resumed_calm : (o : Option ℕ) (call : calls.Call) (done : List Deed) → AreKeys (keys_of done).keys → Calm done → Calm (resumed o call done)
resumed_calm None call done keys calm = calm
resumed_calm (Some conv) call done keys calm = delivered_calm conv (met conv call done) (met_calm conv call done keys calm)

-- ---- ends

all_shut_calm : (kind : PromptKind) (convs : List ℕ) (done : List Deed) → Calm done → Calm (all_shut kind convs done)
all_shut_calm kind [] done calm = calm
all_shut_calm kind (conv ∷ more) done calm =
    all_shut_calm kind more (shut kind conv done) (delivered_calm conv (OfTalk conv calls.Shut ∷ OfPrompts kind (side.Withdrawn conv) ∷ done)
    (call_calm calls.Shut shut_calm conv (OfPrompts kind (side.Withdrawn conv) ∷ done) calm))

closed_calm : (kind : PromptKind) (done : List Deed) → Calm done → Calm (closed kind done)
closed_calm kind done calm = calm_either (is_some (holder_of done (file_of kind))) done (all_shut kind (askers done kind) done) calm (all_shut_calm kind (askers done kind) done calm)

ends_calm : (deed : Deed) (done : List Deed) → ((d : List Deed) (c : ℕ) → talk (deed ∷ d) c ≡ talk d c) → Calm done → Calm (given_up_by deed done)
ends_calm deed done same calm =
    let two = deed ∷ all_withdrawn (ended_by deed done) done in
    closed_calm pk.Needkey (closed pk.Confirm two) (closed_calm pk.Confirm two
    (calm_same done two (λ c. same (all_withdrawn (ended_by deed done) done) c ∙ withdrawn_talk (ended_by deed done) done c) calm))

-- ---- requests

carrying_calm : (conv : ℕ) (word : List ℕ) (ph : Phase) (done : List Deed) → AreKeys (keys_of done).keys → Calm done → Calm (carrying_out conv word ph done)
carrying_calm conv word (Waiting request) done keys calm = met_calm conv (calls.CarriedOut word) done keys calm
carrying_calm conv word Resting done keys calm = calm
carrying_calm conv word Seeking done keys calm = calm
carrying_calm conv word (OnConfirm serial) done keys calm = calm
carrying_calm conv word OnNeedkey done keys calm = calm
carrying_calm conv word OnServer done keys calm = calm
carrying_calm conv word (Kept answer) done keys calm = calm

answer_calm : (call : Call) (conv fid count : ℕ) (ph : Phase) (done : List Deed) → Calm done → Calm (reading_answer call conv fid count ph done)
answer_calm call conv fid count (Kept answer) done calm = then_took_calm conv count answer done calm
answer_calm call conv fid count Resting done calm = calm
answer_calm call conv fid count (Waiting request) done calm = calm
answer_calm call conv fid count Seeking done calm = calm
answer_calm call conv fid count (OnConfirm serial) done calm = calm
answer_calm call conv fid count OnNeedkey done calm = calm
answer_calm call conv fid count OnServer done calm = calm

talk_calm : (call : Call) (fid count : ℕ) (o : Option ℕ) (done : List Deed) → AreKeys (keys_of done).keys → Calm done → Calm (reading_talk call fid count o done)
talk_calm call fid count None done keys calm = calm
talk_calm call fid count (Some conv) done keys calm =
    let next = carried conv call.word done in
    answer_calm call conv fid count (standing_of next conv).phase next (carrying_calm conv call.word (standing_of done conv).phase done keys calm)

reading_calm : (done : List Deed) (conn fid offset count : ℕ) (node : Node) → Calm done → Calm (reading done conn fid offset count node)
reading_calm done conn fid offset count Ctl calm = calm_either (eqb offset 0) (OfFids conn (Listed fid) ∷ done) done calm calm
reading_calm done conn fid offset count Root calm = calm
reading_calm done conn fid offset count Factotum calm = calm
reading_calm done conn fid offset count Rpc calm = calm
reading_calm done conn fid offset count Confirm calm = calm
reading_calm done conn fid offset count Needkey calm = calm
reading_calm done conn fid offset count Proto calm = calm
reading_calm done conn fid offset count Log calm = calm

line_calm : (call : Call) (fid count : ℕ) (node : Node) (what : Line) (done : List Deed) → Calm done → Calm (reading_line call fid count node what done)
line_calm call fid count node NoLine done calm = calm
line_calm call fid count node TooLong done calm = calm
line_calm call fid count node (First line) done calm = calm_same done (line_read node done) (line_talk node done) calm

stored_in_calm : (o : Option ℕ) (came : Result RpcRequest RpcFault) (done : List Deed) → Calm done → Calm (stored o came done)
stored_in_calm None came done calm = calm
stored_in_calm (Some conv) (Ok request) done calm = call_calm (calls.Stored request) (stored_calm request) conv done calm
stored_in_calm (Some conv) (Err fault) done calm = calm

lines_calm : (conn : ℕ) (lines : List CtlLine) (done : List Deed) → Calm done → Calm (lines_done conn lines done)
lines_calm conn [] done calm = calm
lines_calm conn (line ∷ more) done calm = lines_calm conn more (OfKeys conn (line_deed line) ∷ done) calm

walking_calm : (conn newfid : ℕ) (o : Option Node) (done : List Deed) → Calm done → Calm (walking conn newfid o done)
walking_calm conn newfid None done calm = calm
walking_calm conn newfid (Some node) done calm = calm

replying_calm : (kind : Option PromptKind) (reply : Option Reply) (done : List Deed) → AreKeys (keys_of done).keys → Calm done → Calm (replying kind reply done)
replying_calm None reply done keys calm = calm
replying_calm (Some kind) None done keys calm = calm
replying_calm (Some kind) (Some reply) done keys calm =
    resumed_calm (asker_of reply.tag (prompts_of done kind)) (said_by kind reply.agrees) (OfPrompts kind (side.Replied reply.tag) ∷ done) keys calm

body_calm : (done : List Deed) (call : Call) (body : TBody) → AreKeys (keys_of done).keys → Calm done → Calm (after done call body)
unfolding after
body_calm done call (t.Version msize version) keys calm = ends_calm (OfFids call.conn (Versioned (agreed msize version))) done (λ d c. refl) calm
body_calm done call (t.Auth afid uname aname) keys calm = calm
body_calm done call (t.Attach fid afid uname aname) keys calm = calm
body_calm done call (t.Flush oldtag) keys calm = calm
body_calm done call (t.Walk fid newfid wname) keys calm = walking_calm call.conn newfid (lead_to (node_of (fid_of done call.conn fid)) wname) done calm
body_calm done call (t.Open fid mode) keys calm = calm
body_calm done call (t.Create fid name perm mode) keys calm = calm
body_calm done call (t.Read fid offset count) keys calm =
    let node = node_of (fid_of done call.conn fid) in
    let most = effective count (msize_of done call.conn) in
    let what = found most (lines_in done node) in
    calm_either (is_rpc node) (reading_talk call fid most (conv_of done call.conn fid) done) _ (talk_calm call fid most (conv_of done call.conn fid) done keys calm)
    (calm_either (is_line_file node) (reading_line call fid most node what done) (reading done call.conn fid offset most node) (line_calm call fid most node what done calm) (reading_calm done call.conn fid offset most node calm))
body_calm done call (t.Write fid offset content) keys calm =
    let node = node_of (fid_of done call.conn fid) in
    let lines = carried_out (keys_of done) (lines_of content) in
    calm_either (is_rpc node) (stored (conv_of done call.conn fid) (rpc.request_of content) done) _ (stored_in_calm (conv_of done call.conn fid) (rpc.request_of content) done calm)
    (calm_either (is_some (kind_at node)) (replying (kind_at node) (prompt.reply_of content) done) (lines_done call.conn lines done) (replying_calm (kind_at node) (prompt.reply_of content) done keys calm) (lines_calm call.conn lines done calm))
body_calm done call (t.Clunk fid) keys calm = ends_calm (OfFids call.conn (Clunked fid)) done (λ d c. refl) calm
body_calm done call (t.Remove fid) keys calm = ends_calm (OfFids call.conn (Clunked fid)) done (λ d c. refl) calm
body_calm done call (t.Stat fid) keys calm = calm
body_calm done call (t.Wstat fid stat) keys calm = calm

granted_calm : (done : List Deed) (call : Call) (came : Result TBody (List ℕ)) → AreKeys (keys_of done).keys → Calm done → Calm (after_granted done call came)
granted_calm done call (Err text) keys calm = calm
granted_calm done call (Ok body) keys calm = body_calm done call body keys calm

frame_calm : (done : List Deed) (call : Call) (frame : List ℕ) → AreKeys (keys_of done).keys → Calm done → Calm (after_frame done call frame)
unfolding after_frame
frame_calm done call frame keys calm = granted_calm done call (granted done call frame) keys calm

replied_calm : (call : Call) (o : Option RBody) (done : List Deed) → Calm done → Calm (replied call o done)
replied_calm call None done calm = calm
replied_calm call (Some body) done calm = calm

-- ---- events

swept_calm : (done : List Deed) → Calm done → Calm (swept done)
swept_calm done calm = calm_either (has_settled done) (Swept ∷ done) done calm calm

entered_calm : (at : ℕ) (done : List Deed) → Calm done → Calm (entered at done)
entered_calm at done calm = calm_either (was_opened done at) done (OfConnection at Entered ∷ done) calm calm

entered_keys : (at : ℕ) (done : List Deed) → keys_of (entered at done) ≡ keys_of done
entered_keys at done = same_either keys_of (was_opened done at) done (OfConnection at Entered ∷ done) (keys_of done) refl refl

request_calm : (done : List Deed) (at : ℕ) (frame word : List ℕ) → AreKeys (keys_of done).keys → Calm done → Calm (does done (Request at frame word))
request_calm done at frame word keys calm =
    let there = entered at done in
    let call = call_of at frame word in
    let did = answered there call frame in
    calm_either (was_hung done at) done (swept did) calm
    (swept_calm did (replied_calm call (body_to there call frame) (after_frame there call frame)
    (frame_calm there call frame (subst (λ l. AreKeys l.keys) (sym (entered_keys at done)) keys) (entered_calm at done calm))))

taking_calm : (at : ℕ) (left : List RMsg) (done : List Deed) → Calm done → Calm (taking at left done)
taking_calm at [] done calm = calm
taking_calm at (reply ∷ rest) done calm = calm

handing_calm : (o : Due) (done : List Deed) → Calm done → Calm (handing o done)
handing_calm NoneDue done calm = calm
handing_calm (DropDue drop) done calm = calm
handing_calm (QuestionDue question) done calm = calm

does_calm : (done : List Deed) (e : Event) → AreKeys (keys_of done).keys → Calm done → Calm (does done e)
does_calm done (Request at frame word) keys calm = request_calm done at frame word keys calm
does_calm done (Take at) keys calm = calm_either (was_hung done at) done (taking at (untaken done at) (entered at done)) calm (taking_calm at (untaken done at) (entered at done) (entered_calm at done calm))
does_calm done (Hang at) keys calm =
    calm_either (was_opened done at && not (was_hung done at)) (swept (given_up_by (OfConnection at Hung) done)) done
    (swept_calm (given_up_by (OfConnection at Hung) done) (ends_calm (OfConnection at Hung) done (λ d c. refl) calm)) calm
does_calm done (Answer call bytes) keys calm = swept_calm (resumed (asker done call) (calls.Heard bytes) done) (resumed_calm (asker done call) (calls.Heard bytes) done keys calm)
does_calm done (NoAnswer call) keys calm = swept_calm (resumed (asker done call) calls.Unheard done) (resumed_calm (asker done call) calls.Unheard done keys calm)
does_calm done (NoRoom call) keys calm = swept_calm (resumed (asker done call) calls.Roomless done) (resumed_calm (asker done call) calls.Roomless done keys calm)
does_calm done TakeAsk keys calm = handing_calm (due done) done calm
does_calm done Stop keys calm = calm

history_calm : (h : History) → Calm (deeds h)
history_calm [] = λ conv e. cc e
history_calm (e ∷ h) =
    let did = does (deeds h) e in
    let calm = does_calm (deeds h) e (keys_are_keys h) (history_calm h) in
    calm_either (is_halted (deeds h)) (deeds h) _ (history_calm h) (calm_either (ltb (length h + 1) most_events) did (Halted ∷ did) calm calm)

not_searching : (ph : Phase) → (ph ≡ Seeking → ⊥) → is_searching ph ≡ false
not_searching Resting off = refl
not_searching (Waiting request) off = refl
not_searching Seeking off = absurd (off refl)
not_searching (OnConfirm serial) off = refl
not_searching OnNeedkey off = refl
not_searching OnServer off = refl
not_searching (Kept answer) off = refl

pub no_search_is_open : NoSearchIsOpen
no_search_is_open h conv = not_searching (standing_of (deeds h) conv).phase (history_calm h conv)

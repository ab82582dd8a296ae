-- A network between two lines of a script that is made of a number, and what each kind of line does that isn't refused.
use Rattle.std.proofs.Common.{◌≡◌, ℕ, zero, suc, ◌+◌, ◌*◌, ◌^◌, ◌≤◌, ◌<◌, List, [], ◌∷◌, ◌++◌, append-nil, map, codes, length, Bool, true, false, cond, ltb, not, ◌||◌, Some, None, Ok, Err, refl, sym, ap, subst, ◌∙◌, arith}
use Rattle.std.specs.Prelude.{filter, is_some, slice_get}
use Rattle.std.specs.Fmt.{decimal}
use Rattle.std.specs.Str.{bytes_eq}
use Rattle.std.proofs.lemmas.Bool.{le-ltb}
use Rattle.std.proofs.lemmas.List.Elements.{filter_map-append}
use Rattle.nine.specs.declared.message.RMsg.{RMsg}
use Rattle.key_lists.specs.Lists.{KeyList}
use Rattle.roles.specs.declared.need.Need.TheVariants.{Nothing}
use Rattle.roles.specs.Talks.{heard, unheard}
use Rattle.talks.specs.declared.answer.RpcAnswer.{RpcAnswer}
use Rattle.talks.specs.declared.request.TheConstants.{MOST_REQUEST}
use Rattle.talks.specs.Requests as rpc
use Rattle.talks.specs.Standings.{Begun, Kept, OnServer, Resting, Standing, need_in, untouched, with_move}
use Rattle.agent_history.specs.declared.event.Event.TheVariants.{Answer, NoAnswer}
use Rattle.agent_history.specs.Conversations.{fits, talk}
use Rattle.agent_history.specs.Histories.{History, deeds}
use Rattle.auth_server.specs.Requests.{asked_so, is_served, kind_of}
use Rattle.auth_server.specs.Answers.{answer_in, posed}
use Rattle.auth_program.specs.declared.cause.ScriptCause.TheVariants.{BadLine, UnknownConv}
use Rattle.world_scripts.specs.Lines.{ScriptLine}
use Rattle.world_scripts.specs.Pieces.{Whole}
use Rattle.world_scripts.specs.Rounds.{session_of}
use Rattle.world_scripts.proofs.NumberLemmas.{number_again}
use Rattle.world_history.specs.Acts.{Act, Talk, Opened, Started, Got, Given, Answered, Unanswered, Asked, Closed, agent_of, domain, fids_on, has_name, key_lines, least_fid, nodes, opened_names, restarts, speak_lines, talk_of, talks}
use Rattle.world_history.specs.Driving.{clunks, drive, is_refused, questions_to, reads, replies_to}
use Rattle.world_history.specs.Driving as driving
use Rattle.world_history.specs.Scripts.{act_of, fitting, is_unfit, joined, judged, misnamed, named, on_conv, spelled}
use Rattle.world_history.specs.Talking.{Asks, gets, gives, request_questions, request_text, requested, starts, word_of}
use Rattle.world_history.specs.Turns.{Turn, after, asks, closes, hears, lets_open, misses, turn_questions, turn_steps}
use Rattle.world_history.specs.Worlds.{call_by, done_by, fid_for, history, history_by, known, last_call, message_in, messages, messages_in, on_talk, outstanding, put_to, requests, session_steps, steps, steps_by, steps_to, was_misasked}
use Rattle.world_promises.specs.Agents.{asked_as, write_of}
use Rattle.world_promises.specs.Conditions.{AreDone, MayFollow}
use Rattle.driven_agents.specs.Idle.{IsIdle, Runs}
use Rattle.driven_agents.proofs.RunLaws.{drive_runs}
use Rattle.world_promises.proofs.AnswerDeeds.{answer_by, kept}
use Rattle.world_promises.proofs.AnsweredCalm.{told_stands}
use Rattle.world_promises.proofs.AskedTexts.{if_short, text_asked}
use Rattle.world_promises.proofs.DrivenAnswers.{absence_goes, answer_goes}
use Rattle.world_promises.proofs.DrivenSeats.{Rests, close_goes, open_goes}
use Rattle.world_promises.proofs.DrivenTurns.{AsksServer, Sits, asked_next, carried_among, read_asks, read_told, told_body, told_rests, write_goes}
use Rattle.world_promises.proofs.LengthLaws.{all_roomy, turn_roomy}
use Rattle.world_promises.proofs.RecordLaws.{came_out, closed_out, heard_out, opened_out, out_in, outs_in, request_out, session_out, unheard_out}
use Rattle.world_promises.proofs.RestLaws.{rests_need}
use Rattle.world_promises.proofs.RunLemmas.{itself}
use Rattle.world_promises.proofs.ScriptLaws.{driven}
use Rattle.world_promises.proofs.ShortLaws.{runs_short}
use Rattle.world_promises.proofs.SkTalks.{known_server}

-- ---- a network

abbrev pub agent_on : List ℕ → List ℕ
agent_on node = 0 ∷ node

pub record Net (acts : List Act) (m : List (List ℕ)) (open_now : List Talk) (given : List (List ℕ)) (unasked left : ℕ) : Type 0 where
  pub made : nodes acts ≡ codes "b" ∷ codes "a" ∷ []
  pub kept : (node : List ℕ) → restarts acts node ≡ 0
  pub talking : talks acts ≡ open_now
  pub recorded : messages acts ≡ m
  pub names : opened_names acts ≡ given
  pub dom : domain acts ≡ codes "x"
  pub keys : key_lines acts ≡ codes "user=ann !password=annpass" ∷ codes "user=srv !password=srvpass" ∷ []
  pub speaks : speak_lines acts ≡ []
  pub fresh : (later : ℕ) → unasked ≤ later → later < 2 ^ 64 → (requests acts (session_of later) ≡ []) × (was_misasked acts (session_of later) ≡ false)
  pub done : AreDone acts
  pub room : length acts + left ≤ 1000000

-- an act that makes, opens, closes and tells nothing
pub record IsPlain (acts : List Act) (act : Act) : Type 0 where
  pub made : nodes (act ∷ acts) ≡ nodes acts
  pub kept : (node : List ℕ) → restarts (act ∷ acts) node ≡ restarts acts node
  pub talking : talks (act ∷ acts) ≡ talks acts
  pub names : opened_names (act ∷ acts) ≡ opened_names acts
  pub dom : domain (act ∷ acts) ≡ domain acts
  pub keys : key_lines (act ∷ acts) ≡ key_lines acts
  pub speaks : speak_lines (act ∷ acts) ≡ speak_lines acts
  pub asked : (session : List ℕ) → requests (act ∷ acts) session ≡ requests acts session
  pub misasked : (session : List ℕ) → was_misasked (act ∷ acts) session ≡ was_misasked acts session

pub messages_then : (acts : List Act) (act : Act) → messages (act ∷ acts) ≡ messages acts ++ messages_in (steps_by (length (messages acts)) acts act)
messages_then acts act = filter_map-append message_in (steps acts) (steps_by (length (messages_in (steps acts))) acts act)

recorded_then : (acts : List Act) (m new : List (List ℕ)) (act : Act) → messages acts ≡ m → ((n : ℕ) → messages_in (steps_by n acts act) ≡ new) → messages (act ∷ acts) ≡ m ++ new
recorded_then acts m new act was is = messages_then acts act ∙ (ap (λ xs. xs ++ messages_in (steps_by (length (messages acts)) acts act)) was ∙ ap (λ xs. m ++ xs) (is (length (messages acts))))

net_then : (acts : List Act) (m new : List (List ℕ)) (open_now : List Talk) (given : List (List ℕ)) (unasked left : ℕ) (act : Act) → Net acts m open_now given unasked (suc left) → IsPlain acts act → ((n : ℕ) → messages_in (steps_by n acts act) ≡ new) → MayFollow acts act → Net (act ∷ acts) (m ++ new) open_now given unasked left
net_then acts m new open_now given unasked left act net plain is may = record {
  made = plain.made ∙ net.made;
  kept = λ node. plain.kept node ∙ net.kept node;
  talking = plain.talking ∙ net.talking;
  recorded = recorded_then acts m new act net.recorded is;
  names = plain.names ∙ net.names;
  dom = plain.dom ∙ net.dom;
  keys = plain.keys ∙ net.keys;
  speaks = plain.speaks ∙ net.speaks;
  fresh = λ later from few. let f = net.fresh later from few in (plain.asked (session_of later) ∙ f.0, plain.misasked (session_of later) ∙ f.1);
  done = (may, net.done);
  room = omega (arith, net.room);
}

-- an agent that is idle runs behind one more turn
pub runs_on : (acts : List Act) (m : List (List ℕ)) (open_now : List Talk) (given : List (List ℕ)) (unasked left : ℕ) (agent : List ℕ) (turn : Turn) → Net acts m open_now given unasked (suc left) → IsIdle (history acts agent) → Runs (after turn (history acts agent))
runs_on acts m open_now given unasked left agent turn net idle =
    let was = all_roomy driven acts net.done (omega (arith, net.room)) agent in
    let now = turn_roomy (8192 * length acts) turn (history acts agent) idle was (omega (arith, net.room)) in
    runs_short (after turn (history acts agent)) now.driven (omega (arith, now.size, net.room))

-- ---- a turn of a conversation

pub record OnTurn (acts : List Act) (act : Act) (conv : List ℕ) (turn : ℕ → Turn) : Type 0 where
  pub does : done_by acts act ≡ on_talk acts (talk_of acts conv) turn
  pub goes : (agent : List ℕ) → history (act ∷ acts) agent ≡ history_by (done_by acts act) agent (history acts agent)
  pub steps : (n : ℕ) → steps_by n acts act ≡ steps_to n acts (done_by acts act)
  pub asks : (name : List ℕ) → outstanding (act ∷ acts) name ≡ call_by acts name (done_by acts act) (outstanding acts name)

-- the conversation is open on a node by fid 2
pub record IsAt (acts : List Act) (conv node : List ℕ) : Type 0 where
  pub talk : talk_of acts conv ≡ Some (record { conv = conv; node = node; fid = 2 })
  pub agent : agent_of acts node ≡ agent_on node

module _ (acts : List Act) (act : Act) (conv node : List ℕ) (turn : ℕ → Turn) (on : OnTurn acts act conv turn) (at : IsAt acts conv node) where
  turned : done_by acts act ≡ Some (record { agent = agent_on node; turn = turn 2 })
  turned = on.does ∙ (ap (λ o. on_talk acts o turn) at.talk ∙ ap (λ a. Some (record { agent = a; turn = turn 2 })) at.agent)

  pub mine : history (act ∷ acts) (agent_on node) ≡ after (turn 2) (history acts (agent_on node))
  mine =
      let h = history acts (agent_on node) in
      on.goes (agent_on node) ∙ (ap (λ d. history_by d (agent_on node) h) turned ∙ ap (λ b. cond b (after (turn 2) h) h) (itself (agent_on node)))

  pub others : (agent : List ℕ) → bytes_eq (agent_on node) agent ≡ false → history (act ∷ acts) agent ≡ history acts agent
  others agent apart =
      let h = history acts agent in
      on.goes agent ∙ (ap (λ d. history_by d agent h) turned ∙ ap (λ b. cond b (after (turn 2) h) h) apart)

  pub steps_of : (n : ℕ) → steps_by n acts act ≡ turn_steps n (turn 2) (history acts (agent_on node))
  steps_of n = on.steps n ∙ ap (steps_to n acts) turned

  pub calls_of : outstanding (act ∷ acts) conv ≡ call_by acts conv (Some (record { agent = agent_on node; turn = turn 2 })) (outstanding acts conv)
  calls_of = on.asks conv ∙ ap (λ d. call_by acts conv d (outstanding acts conv)) turned

-- ---- what is asked of a conversation

first_runs : (b : Bool) (one other : History) → (Runs other → Runs one) → Runs (cond b one other) → Runs one
first_runs true one other so runs = runs
first_runs false one other so runs = so runs

after_asks : (conv : List ℕ) (fid : ℕ) (what : Asks) (h : History) → after (asks conv fid what) h ≡ requested fid what h
unfolding after
after_asks conv fid what h = refl

questions_asked : (conv : List ℕ) (fid : ℕ) (what : Asks) (h : History) → turn_questions (asks conv fid what) h ≡ request_questions fid what h
unfolding turn_questions
questions_asked conv fid what h = refl

-- a request's text is read as the request
read_as : (what : Asks) → length (request_text what) ≤ 4096 → rpc.request_of (request_text what) ≡ Ok (asked_as what)
read_as what short = text_asked what ∙ ap (λ b. if_short b (asked_as what)) (le-ltb MOST_REQUEST (length (request_text what)) short)

need_none : (n : ℕ) (keys : KeyList) (s : Standing) (h : History) → Sits n keys s h → s.phase ≡ Resting → need_in s.begun ≡ Nothing
need_none n keys s h sits rests =
    ap (λ v. need_in v.stands.begun) (sym sits.sees) ∙ rests_need (talk (deeds h) n) (ap (λ v. v.stands.phase) sits.sees ∙ rests)

pub record IsDone (acts : List Act) (m : List (List ℕ)) (open_now : List Talk) (given : List (List ℕ)) (unasked left : ℕ) (node : List ℕ) (new : List (List ℕ)) (act : Act) : Type 0 where
  pub net : MayFollow acts act → Net (act ∷ acts) (m ++ new) open_now given unasked left
  pub others : (agent : List ℕ) → bytes_eq (agent_on node) agent ≡ false → history (act ∷ acts) agent ≡ history acts agent

-- its answer is told
pub record IsToldOn (acts : List Act) (m : List (List ℕ)) (open_now : List Talk) (given : List (List ℕ)) (unasked left : ℕ) (conv node : List ℕ) (n : ℕ) (keys : KeyList) (s : Standing) (answer : RpcAnswer) (fit : Bool) (act : Act) : Type 0 where
  pub done : IsDone acts m open_now given unasked left node (out_in (told_body fit answer)) act
  pub sits : Sits n keys (told_rests fit s) (history (act ∷ acts) (agent_on node))

module _ (acts : List Act) (m : List (List ℕ)) (open_now : List Talk) (given : List (List ℕ)) (unasked left : ℕ) (net : Net acts m open_now given unasked (suc left)) (act : Act) (plain : IsPlain acts act) (conv node : List ℕ) (at : IsAt acts conv node) where
  module _ (what : Asks) (on : OnTurn acts act conv (λ fid. asks conv fid what)) (short : length (request_text what) ≤ 4096) (n : ℕ) (keys : KeyList) (s : Standing) (sits : Sits n keys s (history acts (agent_on node))) (rests : s.phase ≡ Resting) where
    h : History
    h = history acts (agent_on node)

    written : History
    written = drive (write_of 2 what) h

    behind : History
    behind = drive (reads 2 (word_of what)) written

    all_runs : Runs (requested 2 what h)
    unfolding h
    all_runs = subst Runs (after_asks conv 2 what h) (runs_on acts m open_now given unasked left (agent_on node) (asks conv 2 what) net sits.idle)

    write_runs : Runs written
    unfolding h written behind
    write_runs = first_runs (is_refused (replies_to (write_of 2 what) h)) written behind (drive_runs (reads 2 (word_of what)) written) all_runs

    goes : is_refused (replies_to (write_of 2 what) h) ≡ false → requested 2 what h ≡ behind
    unfolding h written behind
    goes taken = ap (λ b. cond b written behind) taken

    pub told_on : (now : Standing) (answer : RpcAnswer) (fit : Bool) → carried_among keys s.begun what ≡ now → now.phase ≡ Kept answer → fits 8192 answer ≡ fit → IsToldOn acts m open_now given unasked left conv node n keys now answer fit act
    unfolding h written behind
    told_on now answer fit is kept_so fit_so =
        let w = write_goes n keys s what h sits rests (omega (arith, short)) (read_as what short) write_runs in
        let runs : Runs behind = subst Runs (goes w.taken) all_runs in
        let t = read_told n keys s.begun what written answer fit w.sits (need_none n keys s h sits rests) (ap (λ x. x.phase) is ∙ kept_so) fit_so runs in
        let new : (k : ℕ) → messages_in (steps_by k acts act) ≡ out_in (told_body fit answer) = λ k.
        ap messages_in (steps_of acts act conv node (λ fid. asks conv fid what) on at k)
        ∙ (request_out k conv 2 what h w.taken
        ∙ (ap (λ qs. came_out qs (map (λ (x : RMsg). x.body) (replies_to (reads 2 (word_of what)) written))) t.questions
        ∙ (ap outs_in t.replies ∙ append-nil (out_in (told_body fit answer))))) in
        record {
          done = record {
            net = net_then acts m (out_in (told_body fit answer)) open_now given unasked left act net plain new;
            others = others acts act conv node (λ fid. asks conv fid what) on at;
          };
          sits = subst (Sits n keys (told_rests fit now)) (sym (mine acts act conv node (λ fid. asks conv fid what) on at ∙ (after_asks conv 2 what h ∙ goes w.taken))) (subst (λ x. Sits n keys (told_rests fit x) behind) is t.sits);
        }

    -- the authentication server is asked
    pub record IsAskedOn (now : Standing) : Type 0 where
      pub call : ℕ
      pub done : IsDone acts m open_now given unasked left node ((asked_next call now).bytes ∷ []) act
      pub asking : AsksServer n keys now call (history (act ∷ acts) (agent_on node))
      pub outstanding : outstanding (act ∷ acts) conv ≡ Some call

    pub asked_on : (now : Standing) → carried_among keys s.begun what ≡ now → now.phase ≡ OnServer → IsAskedOn now
    unfolding h written behind
    asked_on now is on_server =
        let w = write_goes n keys s what h sits rests (omega (arith, short)) (read_as what short) write_runs in
        let runs : Runs behind = subst Runs (goes w.taken) all_runs in
        let a = read_asks n keys s.begun what written w.sits (need_none n keys s h sits rests) (ap (λ x. x.phase) is ∙ on_server) runs in
        let q : questions_to (reads 2 (word_of what)) written ≡ asked_next a.call now ∷ [] = a.questions ∙ ap (λ x. asked_next a.call x ∷ []) is in
        let new : (k : ℕ) → messages_in (steps_by k acts act) ≡ (asked_next a.call now).bytes ∷ [] = λ k.
        ap messages_in (steps_of acts act conv node (λ fid. asks conv fid what) on at k)
        ∙ (request_out k conv 2 what h w.taken
        ∙ (ap (λ qs. came_out qs (map (λ (x : RMsg). x.body) (replies_to (reads 2 (word_of what)) written))) q ∙ ap (λ bodies. came_out (asked_next a.call now ∷ []) bodies) a.replies)) in
        let raised : turn_questions (asks conv 2 what) h ≡ asked_next a.call now ∷ [] = questions_asked conv 2 what h ∙ (ap (λ b. cond b [] (questions_to (reads 2 (word_of what)) written)) w.taken ∙ q) in
        record {
          call = a.call;
          done = record {
            net = net_then acts m ((asked_next a.call now).bytes ∷ []) open_now given unasked left act net plain new;
            others = others acts act conv node (λ fid. asks conv fid what) on at;
          };
          asking = subst (AsksServer n keys now a.call) (sym (mine acts act conv node (λ fid. asks conv fid what) on at ∙ (after_asks conv 2 what h ∙ goes w.taken))) (subst (λ x. AsksServer n keys x a.call behind) is a.asking);
          outstanding = calls_of acts act conv node (λ fid. asks conv fid what) on at
              ∙ (ap (λ qs. cond (bytes_eq conv conv) (last_call qs (outstanding acts conv)) (outstanding acts conv)) raised ∙ ap (λ b. cond b (Some a.call) (outstanding acts conv)) (itself conv));
        }

-- ---- what it hears

after_hears : (conv : List ℕ) (fid call : ℕ) (bytes : List ℕ) (h : History) → after (hears conv fid call bytes) h ≡ drive (Answer call bytes) h
unfolding after
after_hears conv fid call bytes h = refl

after_misses : (conv : List ℕ) (fid call : ℕ) (h : History) → after (misses conv fid call) h ≡ drive (NoAnswer call) h
unfolding after
after_misses conv fid call h = refl

after_closes : (conv : List ℕ) (fid : ℕ) (h : History) → after (closes conv fid) h ≡ drive (clunks fid) h
unfolding after
after_closes conv fid h = refl

after_opens : (fid : ℕ) (h : History) → after (lets_open fid) h ≡ driving.opened fid h
unfolding after
after_opens fid h = refl

-- how it stands then: its role met this, and it rests
pub record IsHeardOn (acts : List Act) (m : List (List ℕ)) (open_now : List Talk) (given : List (List ℕ)) (unasked left : ℕ) (conv node : List ℕ) (n : ℕ) (keys : KeyList) (b : Begun) (act : Act) : Type 0 where
  pub done : IsDone acts m open_now given unasked left node [] act
  pub now : Standing
  pub begun : now.begun ≡ Some b
  pub rests : now.phase ≡ Resting
  pub sits : Sits n keys now (history (act ∷ acts) (agent_on node))

module _ (acts : List Act) (m : List (List ℕ)) (open_now : List Talk) (given : List (List ℕ)) (unasked left : ℕ) (net : Net acts m open_now given unasked (suc left)) (conv node : List ℕ) (at : IsAt acts conv node) where
  pub heard_on : (n : ℕ) (keys : KeyList) (s : Standing) (b : Begun) (call : ℕ) (bytes : List ℕ) (answer : RpcAnswer) → AsksServer n keys s call (history acts (agent_on node)) → s.begun ≡ Some b → answer_by (heard bytes) b ≡ answer → fits 8192 answer ≡ true → out_in (told_body true answer) ≡ []
      → IsHeardOn acts m open_now given unasked left conv node n keys (with_move b (heard bytes)) (Answered conv bytes call)
  heard_on n keys s b call bytes answer a begun is fit none =
      let h = history acts (agent_on node) in
      let act = Answered conv bytes call in
      let turn = λ (fid : ℕ). hears conv fid call bytes in
      let on : OnTurn acts act conv turn = record { does = refl; goes = λ agent. refl; steps = λ k. refl; asks = λ name. refl } in
      let runs = subst Runs (after_hears conv 2 call bytes h) (runs_on acts m open_now given unasked left (agent_on node) (hears conv 2 call bytes) net a.idle) in
      let t = answer_goes n keys s b call bytes h true a begun (ap (fits 8192) is ∙ fit) runs in
      let new : (k : ℕ) → messages_in (steps_by k acts act) ≡ [] = λ k.
      ap messages_in (steps_of acts act conv node turn on at k)
      ∙ (heard_out k conv 2 call bytes h
      ∙ (ap (λ qs. came_out qs (map (λ (x : RMsg). x.body) (replies_to (Answer call bytes) h))) t.questions
      ∙ (ap outs_in t.replies ∙ (ap (λ x. out_in (told_body true x) ++ []) is ∙ ap (λ xs. xs ++ []) none)))) in
      record {
        done = record {
          net = λ may. subst (λ xs. Net (act ∷ acts) xs open_now given unasked left) refl (net_then acts m [] open_now given unasked left act net (record { made = refl; kept = λ x. refl; talking = refl; names = refl; dom = refl; keys = refl; speaks = refl; asked = λ x. refl; misasked = λ x. refl }) new may);
          others = others acts act conv node turn on at;
        };
        now = told_stands true (kept (heard bytes) b t.starting t.said);
        begun = refl;
        rests = refl;
        sits = subst (Sits n keys (told_stands true (kept (heard bytes) b t.starting t.said))) (sym (mine acts act conv node turn on at ∙ after_hears conv 2 call bytes h)) t.sits;
      }

  pub missed_on : (n : ℕ) (keys : KeyList) (s : Standing) (b : Begun) (call : ℕ) (answer : RpcAnswer) → AsksServer n keys s call (history acts (agent_on node)) → s.begun ≡ Some b → answer_by unheard b ≡ answer → fits 8192 answer ≡ true → out_in (told_body true answer) ≡ []
      → IsHeardOn acts m open_now given unasked left conv node n keys (with_move b unheard) (Unanswered conv call)
  missed_on n keys s b call answer a begun is fit none =
      let h = history acts (agent_on node) in
      let act = Unanswered conv call in
      let turn = λ (fid : ℕ). misses conv fid call in
      let on : OnTurn acts act conv turn = record { does = refl; goes = λ agent. refl; steps = λ k. refl; asks = λ name. refl } in
      let runs = subst Runs (after_misses conv 2 call h) (runs_on acts m open_now given unasked left (agent_on node) (misses conv 2 call) net a.idle) in
      let t = absence_goes n keys s b call h true a begun (ap (fits 8192) is ∙ fit) runs in
      let new : (k : ℕ) → messages_in (steps_by k acts act) ≡ [] = λ k.
      ap messages_in (steps_of acts act conv node turn on at k)
      ∙ (unheard_out k conv 2 call h
      ∙ (ap (λ qs. came_out qs (map (λ (x : RMsg). x.body) (replies_to (NoAnswer call) h))) t.questions
      ∙ (ap outs_in t.replies ∙ (ap (λ x. out_in (told_body true x) ++ []) is ∙ ap (λ xs. xs ++ []) none)))) in
      record {
        done = record {
          net = net_then acts m [] open_now given unasked left act net (record { made = refl; kept = λ x. refl; talking = refl; names = refl; dom = refl; keys = refl; speaks = refl; asked = λ x. refl; misasked = λ x. refl }) new;
          others = others acts act conv node turn on at;
        };
        now = told_stands true (kept unheard b t.starting t.said);
        begun = refl;
        rests = refl;
        sits = subst (Sits n keys (told_stands true (kept unheard b t.starting t.said))) (sym (mine acts act conv node turn on at ∙ after_misses conv 2 call h)) t.sits;
      }

  -- it is closed
  pub record IsClosedOn (n : ℕ) (keys : KeyList) : Type 0 where
    pub behind : MayFollow acts (Closed conv) → Net (Closed conv ∷ acts) m (filter (λ t. not (bytes_eq t.conv conv)) open_now) given unasked left
    pub others : (agent : List ℕ) → bytes_eq (agent_on node) agent ≡ false → history (Closed conv ∷ acts) agent ≡ history acts agent
    pub rests : Rests (n + 1) keys (history (Closed conv ∷ acts) (agent_on node))

  pub closed_on : (n : ℕ) (keys : KeyList) (s : Standing) → Sits n keys s (history acts (agent_on node)) → IsClosedOn n keys
  closed_on n keys s sits =
      let h = history acts (agent_on node) in
      let act = Closed conv in
      let turn = λ (fid : ℕ). closes conv fid in
      let on : OnTurn acts act conv turn = record { does = refl; goes = λ agent. refl; steps = λ k. refl; asks = λ name. refl } in
      let runs = subst Runs (after_closes conv 2 h) (runs_on acts m open_now given unasked left (agent_on node) (closes conv 2) net sits.idle) in
      let t = close_goes n keys s h sits runs in
      let new : (k : ℕ) → messages_in (steps_by k acts act) ≡ [] = λ k. ap messages_in (steps_of acts act conv node turn on at k) ∙ (closed_out k conv 2 h ∙ ap outs_in t.replies) in
      record {
        behind = λ may. record {
          made = net.made;
          kept = net.kept;
          talking = ap (filter (λ (t : Talk). not (bytes_eq t.conv conv))) net.talking;
          recorded = recorded_then acts m [] act net.recorded new ∙ append-nil m;
          names = net.names;
          dom = net.dom;
          keys = net.keys;
          speaks = net.speaks;
          fresh = net.fresh;
          done = (may, net.done);
          room = omega (arith, net.room);
        };
        others = others acts act conv node turn on at;
        rests = subst (Rests (n + 1) keys) (sym (mine acts act conv node turn on at ∙ after_closes conv 2 h)) t.rests;
      }

-- ---- one is opened

pub record IsOpenedOn (acts : List Act) (m : List (List ℕ)) (open_now : List Talk) (given : List (List ℕ)) (unasked left : ℕ) (conv node : List ℕ) (k : ℕ) (keys : KeyList) : Type 0 where
  pub fits : is_unfit acts (Opened node conv) ≡ false
  pub net : MayFollow acts (Opened node conv) → Net (Opened node conv ∷ acts) m (open_now ++ record { conv = conv; node = node; fid = 2 } ∷ []) (conv ∷ given) unasked left
  pub others : (agent : List ℕ) → bytes_eq (agent_on node) agent ≡ false → history (Opened node conv ∷ acts) agent ≡ history acts agent
  pub sits : Sits k keys untouched (history (Opened node conv ∷ acts) (agent_on node))

open_fits : (acts : List Act) (node conv : List ℕ) (agent : List ℕ) → has_name conv (opened_names acts) ≡ false → fid_for acts node ≡ 2 → agent_of acts node ≡ agent → driving.refuses_open 2 (history acts agent) ≡ false → is_unfit acts (Opened node conv) ≡ false
unfolding is_unfit
open_fits acts node conv agent name fid is taken =
    ap (λ b. b || driving.refuses_open (fid_for acts node) (history acts (agent_of acts node))) name
    ∙ (ap (λ f. driving.refuses_open f (history acts (agent_of acts node))) fid ∙ (ap (λ a. driving.refuses_open 2 (history acts a)) is ∙ taken))

pub opened_on : (acts : List Act) (m : List (List ℕ)) (open_now : List Talk) (given : List (List ℕ)) (unasked left : ℕ) (conv node : List ℕ) (k : ℕ) (keys : KeyList) → Net acts m open_now given unasked (suc left) → has_name conv given ≡ false → fids_on node open_now ≡ [] → Rests k keys (history acts (agent_on node))
    → IsOpenedOn acts m open_now given unasked left conv node k keys
opened_on acts m open_now given unasked left conv node k keys net new none rests =
    let h = history acts (agent_on node) in
    let act = Opened node conv in
    let agent : agent_of acts node ≡ agent_on node = ap (λ n. n ∷ node) (net.kept node) in
    let fid : fid_for acts node ≡ 2 = ap (λ ts. least_fid (fids_on node ts)) net.talking ∙ ap least_fid none in
    let runs = subst Runs (after_opens 2 h) (runs_on acts m open_now given unasked left (agent_on node) (lets_open 2) net rests.idle) in
    let t = open_goes k keys h rests runs in
    let turned_so : done_by acts act ≡ Some (record { agent = agent_on node; turn = lets_open 2 }) = ap (λ f. Some (record { agent = agent_of acts node; turn = lets_open f })) fid ∙ ap (λ a. Some (record { agent = a; turn = lets_open 2 })) agent in
    let nothing : (n : ℕ) → messages_in (steps_by n acts act) ≡ [] = λ n. ap (λ d. messages_in (steps_to n acts d)) turned_so ∙ opened_out n 2 h in
    record {
      fits = open_fits acts node conv (agent_on node) (ap (has_name conv) net.names ∙ new) fid agent t.taken;
      net = λ may. record {
        made = net.made;
        kept = net.kept;
        talking = ap (λ ts. ts ++ record { conv = conv; node = node; fid = least_fid (fids_on node ts) } ∷ []) net.talking ∙ ap (λ f. open_now ++ record { conv = conv; node = node; fid = f } ∷ []) (ap least_fid none);
        recorded = recorded_then acts m [] act net.recorded nothing ∙ append-nil m;
        names = ap (λ names. conv ∷ names) net.names;
        dom = net.dom;
        keys = net.keys;
        speaks = net.speaks;
        fresh = net.fresh;
        done = (may, net.done);
        room = omega (arith, net.room);
      };
      others = λ other apart. ap (λ d. history_by d other (history acts other)) turned_so ∙ ap (λ b. cond b (after (lets_open 2) (history acts other)) (history acts other)) apart;
      sits = subst (Sits k keys untouched) (sym (ap (λ d. history_by d (agent_on node) h) turned_so ∙ (ap (λ b. cond b (after (lets_open 2) h) h) (itself (agent_on node)) ∙ after_opens 2 h))) t.sits;
    }

-- ---- the authentication server is asked

known_so : (acts : List Act) → domain acts ≡ codes "x" → key_lines acts ≡ codes "user=ann !password=annpass" ∷ codes "user=srv !password=srvpass" ∷ [] → speak_lines acts ≡ [] → known acts ≡ known_server
known_so acts dom keys speaks = rw (dom, keys, speaks) refl

pub record IsServedOn (acts : List Act) (m : List (List ℕ)) (open_now : List Talk) (given : List (List ℕ)) (round left : ℕ) (act : Act) (answer : List ℕ) : Type 0 where
  pub fits : is_unfit acts act ≡ false
  pub net : MayFollow acts act → Net (act ∷ acts) (m ++ answer ∷ []) open_now given (round + 1) left

asked_fits : (acts : List Act) (session request : List ℕ) (words : List (List ℕ)) → requests acts session ≡ [] → was_misasked acts session ≡ false → kind_of request ≡ 1 → length request ≡ 141 → is_unfit acts (Asked session request words) ≡ false
unfolding is_unfit
asked_fits acts session request words none well kind long = rw (none, well, kind, long) refl

-- another session isn't asked by it
other_asked : (acts : List Act) (session other request : List ℕ) (words : List (List ℕ)) → bytes_eq session other ≡ false → (requests (Asked session request words ∷ acts) other ≡ requests acts other) × (was_misasked (Asked session request words ∷ acts) other ≡ was_misasked acts other)
other_asked acts session other request words apart = (ap (λ b. cond b (cond (is_served (kind_of request)) (put_to acts request words ∷ requests acts other) (requests acts other)) (requests acts other)) apart, ap (λ b. cond b (cond (is_served (kind_of request)) (was_misasked acts other) true) (was_misasked acts other)) apart)

pub served_on : (acts : List Act) (m : List (List ℕ)) (open_now : List Talk) (given : List (List ℕ)) (round left : ℕ) (request : List ℕ) (words : List (List ℕ)) (answer : List ℕ) → Net acts m open_now given round (suc left) → round < 2 ^ 64 → kind_of request ≡ 1 → length request ≡ 141 → answer_in [] (posed known_server (asked_so request words)) ≡ answer
    → ((later : ℕ) → round < later → later < 2 ^ 64 → bytes_eq (session_of round) (session_of later) ≡ false) → IsServedOn acts m open_now given round left (Asked (session_of round) request words) answer
served_on acts m open_now given round left request words answer net few kind long is apart =
    let session = session_of round in
    let act = Asked session request words in
    let f = net.fresh round (omega arith) few in
    let put : put_to acts request words ≡ posed known_server (asked_so request words) = ap (λ k. posed k (asked_so request words)) (known_so acts net.dom net.keys net.speaks) in
    let new : (n : ℕ) → messages_in (steps_by n acts act) ≡ answer ∷ [] = λ n.
    ap (λ before. messages_in (session_steps n session before (put_to acts request words))) f.0
    ∙ (ap (λ p. messages_in (session_steps n session [] p)) put
    ∙ (session_out n session [] (posed known_server (asked_so request words)) (ap is_served kind) ∙ ap (λ x. x ∷ []) is)) in
    record {
      fits = asked_fits acts session request words f.0 f.1 kind long;
      net = λ may. record {
        made = net.made;
        kept = net.kept;
        talking = net.talking;
        recorded = recorded_then acts m (answer ∷ []) act net.recorded new;
        names = net.names;
        dom = net.dom;
        keys = net.keys;
        speaks = net.speaks;
        fresh = λ later from below. let o = other_asked acts session (session_of later) request words (apart later (omega (arith, from)) below) in let g = net.fresh later (omega (arith, from)) below in (o.0 ∙ g.0, o.1 ∙ g.1);
        done = (may, net.done);
        room = omega (arith, net.room);
      };
    }

-- ---- lines that aren't refused

pub fit_line : (acts : List Act) (line : ScriptLine) (act : Act) → misnamed acts line ≡ None → act_of acts (messages acts) line ≡ Some act → is_unfit acts act ≡ false → judged acts (Some line) ≡ Ok act
fit_line acts line act names is fits =
    ap (named acts line) names ∙ (ap (fitting acts) is ∙ ap (λ b. cond b (Err BadLine) (Ok act)) fits)

pub on_known : (acts : List Act) (conv : List ℕ) (t : Talk) → talk_of acts conv ≡ Some t → on_conv acts conv ≡ None
on_known acts conv t is = ap (λ o. cond (is_some o) None (Some UnknownConv)) is

-- bytes of a message that is the last one
pub last_is : (m : List (List ℕ)) (x : List ℕ) (n : ℕ) → length m ≡ n → slice_get (m ++ x ∷ []) n ≡ Some x
last_is [] x n long = ap (slice_get (x ∷ [])) (sym long)
last_is (y ∷ m) x n long = ap (slice_get (y ∷ (m ++ x ∷ []))) (sym long) ∙ last_is m x (length m) refl

pub stays_there : (m more : List (List ℕ)) (n : ℕ) (x : List ℕ) → slice_get m n ≡ Some x → slice_get (m ++ more) n ≡ Some x
stays_there [] more n x e = absurd cc
stays_there (y ∷ m) more zero x e = e
stays_there (y ∷ m) more (suc n) x e = stays_there m more n x e

pub whole_is : (m : List (List ℕ)) (n : ℕ) (x : List ℕ) → n < 2 ^ 64 → slice_get m n ≡ Some x → spelled m (Whole (decimal n) ∷ []) ≡ Some x
whole_is m n x few is = ap (λ k. joined (slice_get m k) (Some [])) (number_again n few).1 ∙ (ap (λ o. joined o (Some [])) is ∙ ap (λ b. Some b) (append-nil x))

pub given_fits : (acts : List Act) (conv bytes : List ℕ) → length bytes ≤ 4000 → is_unfit acts (Given conv bytes) ≡ false
unfolding is_unfit
given_fits acts conv bytes short = le-ltb 4096 (length (request_text (gives bytes))) (omega (arith, short))

pub started_fits : (acts : List Act) (conv word tuple : List ℕ) → is_unfit acts (Started conv word tuple) ≡ false
unfolding is_unfit
started_fits acts conv word tuple = refl

pub got_fits : (acts : List Act) (conv : List ℕ) → is_unfit acts (Got conv) ≡ false
unfolding is_unfit
got_fits acts conv = refl

pub closed_fits : (acts : List Act) (conv : List ℕ) → is_unfit acts (Closed conv) ≡ false
unfolding is_unfit
closed_fits acts conv = refl

pub answered_fits : (acts : List Act) (conv bytes : List ℕ) (call other : ℕ) → outstanding acts conv ≡ Some call → length bytes ≤ 160 → is_unfit acts (Answered conv bytes other) ≡ false
unfolding is_unfit
answered_fits acts conv bytes call other asked short = ap (λ o. not (is_some o) || ltb 160 (length bytes)) asked ∙ le-ltb 160 (length bytes) short

pub unanswered_fits : (acts : List Act) (conv : List ℕ) (call other : ℕ) → outstanding acts conv ≡ Some call → is_unfit acts (Unanswered conv other) ≡ false
unfolding is_unfit
unanswered_fits acts conv call other asked = ap (λ o. not (is_some o)) asked

-- less room is wanted
pub less_room : (acts : List Act) (m : List (List ℕ)) (open_now : List Talk) (given : List (List ℕ)) (unasked later left fewer : ℕ) → Net acts m open_now given unasked left → unasked ≤ later → fewer ≤ left → Net acts m open_now given later fewer
less_room acts m open_now given unasked later left fewer net from less = record {
  made = net.made;
  kept = net.kept;
  talking = net.talking;
  recorded = net.recorded;
  names = net.names;
  dom = net.dom;
  keys = net.keys;
  speaks = net.speaks;
  fresh = λ n past few. net.fresh n (omega (arith, from, past)) few;
  done = net.done;
  room = omega (arith, net.room, less);
}

-- ---- the acts that ask something

pub on_started : (acts : List Act) (conv word tuple : List ℕ) → OnTurn acts (Started conv word tuple) conv (λ fid. asks conv fid (starts word tuple))
on_started acts conv word tuple = record { does = refl; goes = λ agent. refl; steps = λ n. refl; asks = λ name. refl }

pub on_got : (acts : List Act) (conv : List ℕ) → OnTurn acts (Got conv) conv (λ fid. asks conv fid gets)
on_got acts conv = record { does = refl; goes = λ agent. refl; steps = λ n. refl; asks = λ name. refl }

pub on_given : (acts : List Act) (conv bytes : List ℕ) → OnTurn acts (Given conv bytes) conv (λ fid. asks conv fid (gives bytes))
on_given acts conv bytes = record { does = refl; goes = λ agent. refl; steps = λ n. refl; asks = λ name. refl }

pub plain_started : (acts : List Act) (conv word tuple : List ℕ) → IsPlain acts (Started conv word tuple)
plain_started acts conv word tuple = record { made = refl; kept = λ x. refl; talking = refl; names = refl; dom = refl; keys = refl; speaks = refl; asked = λ x. refl; misasked = λ x. refl }

pub plain_got : (acts : List Act) (conv : List ℕ) → IsPlain acts (Got conv)
plain_got acts conv = record { made = refl; kept = λ x. refl; talking = refl; names = refl; dom = refl; keys = refl; speaks = refl; asked = λ x. refl; misasked = λ x. refl }

pub plain_given : (acts : List Act) (conv bytes : List ℕ) → IsPlain acts (Given conv bytes)
plain_given acts conv bytes = record { made = refl; kept = λ x. refl; talking = refl; names = refl; dom = refl; keys = refl; speaks = refl; asked = λ x. refl; misasked = λ x. refl }

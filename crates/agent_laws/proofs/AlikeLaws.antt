-- Histories that did the same but for secrets do so whatever happens next, and answer alike.
use Rattle.std.proofs.Common.{◌≡◌, ℕ, suc, ◌+◌, List, [], ◌∷◌, ◌++◌, length, drop, map, reverse, Bool, true, false, cond, eqb, ltb, ◌&&◌, not, Option, Some, None, refl, sym, ap, subst, ◌∙◌}
use Rattle.std.specs.Prelude.{find, option_map}
use Rattle.std.specs.List.{list_all, list_any}
use Rattle.std.proofs.lemmas.Bool.{and_parts, or_parts}
use Rattle.nine.specs.declared.message.RMsg.{RMsg}
use Rattle.nine.specs.declared.message.RBody.{RBody}
use Rattle.file_tree.specs.Calls.{node_of}
use Rattle.talks.specs.Calls as calls
use Rattle.talks.specs.Standings.{question_of, standing}
use Rattle.agent_history.specs.declared.event.StepAnswer.TheVariants.{Stopped}
use Rattle.agent_history.specs.declared.event.Event.{Event}
use Rattle.agent_history.specs.declared.event.Event.TheVariants.{Request, Hang, Answer, NoAnswer, NoRoom, Take, TakeAsk, Stop}
use Rattle.agent_history.specs.Deeds.{Deed, OfFids, OfKeys, OfReplies, OfConnection, OfTalk, Raised, HandedOut, OfPrompts, OfLog, DropTaken, Swept, Halted, Versioned, Attached, Walked, Opened, Listed, Browsed, Clunked, Answered, Taken, Entered, Hung, fid_of, is_halted, was_hung, was_opened}
use Rattle.agent_history.specs.Conversations.{Question, Speaker, asker, questions, resumed, speakers, stands, Due, NoneDue, DropDue, QuestionDue, due, given_up_by}
use Rattle.agent_history.specs.Replies.{has_settled, replies, swept, taken, untaken}
use Rattle.agent_history.specs.Requests.{Call, after_frame, answered, body_to, call_of, is_rpc, replied}
use Rattle.agent_history.specs.Histories.{History, Answer as IsAnswer, answer, asks, deeds, does, entered, handing, most_events, put_out, taking}
use Rattle.agent_laws.specs.Laws.{SameButSecrets, all_asked, all_open, asks_server, has_conversed, hidden_deed}
use Rattle.agent_laws.proofs.KindLaws.{KeepsOf, is_done}
use Rattle.agent_laws.proofs.GrowLaws.{all_are_asked, conn_of, event_grows, on_its_own}
use Rattle.agent_laws.proofs.SightLaws.{none_speaks, sight, quiet_ends}
use Rattle.agent_laws.proofs.DueLaws.{due_alike}
use Rattle.agent_laws.proofs.SecretLaws.{body_to_alike, deeds_open, frame_alike}

-- ---- what an event does to both

-- one deed more, which isn't about keys
more_alike : (a b : List Deed) (deed : Deed) → hidden_deed deed ≡ deed → all_open (deed ∷ a) ≡ all_open a → SameButSecrets a b → SameButSecrets (deed ∷ a) (deed ∷ b)
more_alike a b deed plain opens s = record { alike = ap (λ (ds : List Deed). hidden_deed deed ∷ ds) s.alike; open_deletes = opens ∙ s.open_deletes }

either_alike : (x : Bool) (a b one other : List Deed) → SameButSecrets a b → SameButSecrets one other → SameButSecrets (cond x a one) (cond x b other)
either_alike true a b one other s t = s
either_alike false a b one other s t = t

on_both : (x y : Bool) (a b one other : List Deed) → x ≡ y → SameButSecrets a b → SameButSecrets one other → SameButSecrets (cond x a one) (cond y b other)
on_both x y a b one other e s t = rw e (either_alike y a b one other s t)

entered_alike : (a b : List Deed) (at : ℕ) → SameButSecrets a b → SameButSecrets (entered at a) (entered at b)
entered_alike a b at s = on_both (was_opened a at) (was_opened b at) a b _ _ ((sight a b s).opened at) s (more_alike a b (OfConnection at Entered) refl refl s)

swept_alike : (a b : List Deed) → SameButSecrets a b → SameButSecrets (swept a) (swept b)
swept_alike a b s = on_both (has_settled a) (has_settled b) (Swept ∷ a) (Swept ∷ b) a b (sight a b s).settled (more_alike a b Swept refl refl s) s

replied_alike : (a b : List Deed) (call : Call) (o : Option RBody) → SameButSecrets a b → SameButSecrets (replied call o a) (replied call o b)
replied_alike a b call None s = s
replied_alike a b call (Some body) s = more_alike a b (OfReplies call.conn (Answered call.tag body)) refl refl s

answered_alike : (a b : List Deed) (call : Call) (frame : List ℕ) → SameButSecrets a b → has_conversed a ≡ false → SameButSecrets (answered a call frame) (answered b call frame)
answered_alike a b call frame s none =
    subst (λ (o : Option RBody). SameButSecrets (answered a call frame) (replied call o (after_frame b call frame))) (body_to_alike a b s none call frame)
    (replied_alike (after_frame a call frame) (after_frame b call frame) call (body_to a call frame) (frame_alike a b s none call frame))

left_alike : (a b : List Deed) (at : ℕ) → SameButSecrets a b → untaken a at ≡ untaken b at
left_alike a b at s = ap (λ (n : ℕ). drop n (reverse (replies a at))) ((sight a b s).took at) ∙ ap (λ (rs : List RMsg). drop (taken b at) (reverse rs)) ((sight a b s).answers at)

taking_alike : (at : ℕ) (left : List RMsg) (a b : List Deed) → SameButSecrets a b → SameButSecrets (taking at left a) (taking at left b)
taking_alike at [] a b s = s
taking_alike at (reply ∷ rest) a b s = more_alike a b (OfReplies at Taken) refl refl s

take_alike : (a b : List Deed) (at : ℕ) → SameButSecrets a b → SameButSecrets (taking at (untaken a at) (entered at a)) (taking at (untaken b at) (entered at b))
take_alike a b at s = rw (left_alike a b at s) (taking_alike at (untaken b at) (entered at a) (entered at b) (entered_alike a b at s))

-- where no conversation stands, none has a question
no_questions : (done : List Deed) (qs : List Question) → speakers done ≡ [] → list_all (λ q. stands done q.conv && asks_server done q.conv) qs ≡ true → qs ≡ []
no_questions done [] e h = refl
no_questions done (q ∷ qs) e h =
    let there = (and_parts (stands done q.conv) (asks_server done q.conv) (and_parts (stands done q.conv && asks_server done q.conv) (list_all (λ x. stands done x.conv && asks_server done x.conv) qs) h).0).0 in
    absurd (let no_way : true ≡ false = sym there ∙ ap (λ (standing : List Speaker). list_any (λ s. eqb s.conv q.conv) standing) e in cc)

nobody_asked : (done : List Deed) (call : ℕ) → has_conversed done ≡ false → all_asked done ≡ true → asker done call ≡ None
nobody_asked done call none known =
    ap (λ (qs : List Question). option_map (λ q. q.conv) (find (λ q. eqb q.call call) qs)) (no_questions done (questions done) (none_speaks done none) known)

-- so what the authentication server answers does nothing
resumed_alike : (a b : List Deed) (call : ℕ) (came : calls.Call) → SameButSecrets a b → has_conversed a ≡ false → all_asked a ≡ true → SameButSecrets (swept (resumed (asker a call) came a)) (swept (resumed (asker b call) came b))
resumed_alike a b call came s none known =
    let asks = ap (λ (qs : List Question). option_map (λ q. q.conv) (find (λ q. eqb q.call call) qs)) (sight a b s).asking in
    let nobody = nobody_asked a call none known in
    let other : asker b call ≡ None = sym asks ∙ nobody in
    subst (λ (o : Option ℕ). SameButSecrets (swept (resumed (asker a call) came a)) (swept (resumed o came b))) (sym other)
    (subst (λ (o : Option ℕ). SameButSecrets (swept (resumed o came a)) (swept b)) (sym nobody) (swept_alike a b s))

handing_alike : (o : Due) (a b : List Deed) → SameButSecrets a b → SameButSecrets (handing o a) (handing o b)
handing_alike NoneDue a b s = s
handing_alike (DropDue drop) a b s = more_alike a b DropTaken refl refl s
handing_alike (QuestionDue question) a b s = more_alike a b HandedOut refl refl s

entered_quiet : (at : ℕ) (done : List Deed) → has_conversed done ≡ false → has_conversed (entered at done) ≡ false
entered_quiet at done none = by_cases (was_opened done at)
  where
    by_cases : (b : Bool) → has_conversed (cond b done (OfConnection at Entered ∷ done)) ≡ false
    by_cases true = none
    by_cases false = none

hung_alike : (a b : List Deed) (at : ℕ) → SameButSecrets a b → has_conversed a ≡ false → SameButSecrets (given_up_by (OfConnection at Hung) a) (given_up_by (OfConnection at Hung) b)
hung_alike a b at s none =
    let one = quiet_ends (OfConnection at Hung) a none (λ kind. refl) in
    let other = quiet_ends (OfConnection at Hung) b (sym (sight a b s).conversed ∙ none) (λ kind. refl) in
    subst (λ (ds : List Deed). SameButSecrets (given_up_by (OfConnection at Hung) a) ds) (sym other)
    (subst (λ (ds : List Deed). SameButSecrets ds (OfConnection at Hung ∷ b)) (sym one) (more_alike a b (OfConnection at Hung) refl refl s))

does_alike : (e : Event) (a b : List Deed) → SameButSecrets a b → has_conversed a ≡ false → all_asked a ≡ true → SameButSecrets (does a e) (does b e)
does_alike (Request at frame word) a b s none known =
    on_both (was_hung a at) (was_hung b at) a b _ _ ((sight a b s).hung at) s
    (swept_alike _ _ (answered_alike (entered at a) (entered at b) (call_of at frame word) frame (entered_alike a b at s) (entered_quiet at a none)))
does_alike (Take at) a b s none known = on_both (was_hung a at) (was_hung b at) a b _ _ ((sight a b s).hung at) s (take_alike a b at s)
does_alike (Hang at) a b s none known =
    on_both (was_opened a at && not (was_hung a at)) (was_opened b at && not (was_hung b at)) _ _ a b
    (rw ((sight a b s).opened at, (sight a b s).hung at) refl) (swept_alike _ _ (hung_alike a b at s none)) s
does_alike Stop a b s none known = more_alike a b Halted refl refl s
does_alike (Answer call bytes) a b s none known = resumed_alike a b call (calls.Heard bytes) s none known
does_alike (NoAnswer call) a b s none known = resumed_alike a b call calls.Unheard s none known
does_alike (NoRoom call) a b s none known = resumed_alike a b call calls.Roomless s none known
does_alike TakeAsk a b s none known =
    subst (λ (o : Due). SameButSecrets (handing (due a) a) (handing o b)) (due_alike a b s) (handing_alike (due a) a b s)

-- ---- histories

-- as many events did the same but for secrets
pub record LookAlike (A B : History) : Type 0 where
  pub done : SameButSecrets (deeds A) (deeds B)
  pub many : length A ≡ length B

-- two events that do the same but for secrets, after two such histories
pub two_alike : (A B : History) (one other : Event) → LookAlike A B → SameButSecrets (does (deeds A) one) (does (deeds B) other) → LookAlike (one ∷ A) (other ∷ B)
two_alike A B one other s t = record {
  done = on_both (is_halted (deeds A)) (is_halted (deeds B)) (deeds A) (deeds B) _ _ (sight (deeds A) (deeds B) s.done).halted s.done
      (on_both (ltb (length A + 1) most_events) (ltb (length B + 1) most_events) _ _ _ _ (ap (λ (n : ℕ). ltb (n + 1) most_events) s.many) t (more_alike _ _ Halted refl refl t));
  many = ap suc s.many;
}

-- a conversation that was opened stays opened
abbrev Quieter : Bool → List Deed → Type 0
Quieter before done = has_conversed done ≡ false → before ≡ false

quiet_more : (before : Bool) (conn : ℕ) → KeepsOf (is_done conn) (Quieter before)
quiet_more before conn done (OfFids at (Opened f mode)) kind fits q = λ none. q (or_parts (is_rpc (node_of (fid_of done at f))) (has_conversed done) none).1
quiet_more before conn done (OfFids at (Versioned msize)) kind fits q = q
quiet_more before conn done (OfFids at (Attached f)) kind fits q = q
quiet_more before conn done (OfFids at (Walked f node)) kind fits q = q
quiet_more before conn done (OfFids at (Listed f)) kind fits q = q
quiet_more before conn done (OfFids at (Browsed f next)) kind fits q = q
quiet_more before conn done (OfFids at (Clunked f)) kind fits q = q
quiet_more before conn done (OfKeys at deed) kind fits q = q
quiet_more before conn done (OfReplies at deed) kind fits q = q
quiet_more before conn done (OfConnection at deed) kind fits q = q
quiet_more before conn done (OfTalk conv call) kind fits q = q
quiet_more before conn done (Raised conv) kind fits q = q
quiet_more before conn done HandedOut kind fits q = q
quiet_more before conn done DropTaken kind fits q = q
quiet_more before conn done (OfPrompts about doing) kind fits q = λ none. absurd cc
quiet_more before conn done (OfLog doing) kind fits q = q
quiet_more before conn done Swept kind fits q = q
quiet_more before conn done Halted kind fits q = q

quiet_before : (e : Event) (H : History) → has_conversed (deeds (e ∷ H)) ≡ false → has_conversed (deeds H) ≡ false
quiet_before e H = event_grows (Quieter (has_conversed (deeds H))) (conn_of e) (quiet_more (has_conversed (deeds H)) (conn_of e)) e H (on_its_own e) (λ none. none)

events_alike : (more A B : History) → has_conversed (deeds (more ++ A)) ≡ false → LookAlike A B → LookAlike (more ++ A) (more ++ B)
events_alike [] A B none s = s
events_alike (e ∷ more) A B none s =
    let before = quiet_before e (more ++ A) none in
    let t = events_alike more A B before s in
    two_alike (more ++ A) (more ++ B) e e t (does_alike e (deeds (more ++ A)) (deeds (more ++ B)) t.done before (all_are_asked (more ++ A)))

put_alike : (a b : List Deed) (o : Due) → SameButSecrets a b → put_out a o ≡ put_out b o
put_alike a b NoneDue s = refl
put_alike a b (DropDue drop) s = refl
put_alike a b (QuestionDue q) s = ap (λ (met : List calls.Call). asks q (question_of (standing met))) ((sight a b s).talking q.conv)

answer_alike : (e : Event) (A B : History) → LookAlike A B → answer A e ≡ answer B e
answer_alike (Take at) A B s =
    let seen = sight (deeds A) (deeds B) s.done in
    rw (seen.halted, seen.hung at, left_alike (deeds A) (deeds B) at s.done) refl
answer_alike TakeAsk A B s =
    ap (λ (b : Bool). cond b (Stopped, []) (put_out (deeds A) (due (deeds A)))) (sight (deeds A) (deeds B) s.done).halted
    ∙ ap (λ (o : Due). cond (is_halted (deeds B)) (Stopped, []) (put_out (deeds A) o)) (due_alike (deeds A) (deeds B) s.done)
    ∙ ap (λ (x : IsAnswer). cond (is_halted (deeds B)) (Stopped, []) x) (put_alike (deeds A) (deeds B) (due (deeds B)) s.done)
answer_alike (Request at frame word) A B s = refl
answer_alike (Hang at) A B s = refl
answer_alike (Answer call bytes) A B s = refl
answer_alike (NoAnswer call) A B s = refl
answer_alike (NoRoom call) A B s = refl
answer_alike Stop A B s = refl

itself_alike : (H : History) → LookAlike H H
itself_alike H = record { done = record { alike = refl; open_deletes = deeds_open H }; many = refl }

pub no_answer_tells : (history more : History) (event one other : Event) → all_open (does (deeds history) one) ≡ true → map hidden_deed (does (deeds history) one) ≡ map hidden_deed (does (deeds history) other)
    → has_conversed (deeds (more ++ one ∷ history)) ≡ false → answer (more ++ one ∷ history) event ≡ answer (more ++ other ∷ history) event
no_answer_tells history more event one other opens same none =
    answer_alike event (more ++ one ∷ history) (more ++ other ∷ history)
    (events_alike more (one ∷ history) (other ∷ history) none (two_alike history history one other (itself_alike history) (record { alike = same; open_deletes = opens })))

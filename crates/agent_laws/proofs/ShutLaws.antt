-- What ends with fids that are given up, the questions of conversations and requests that wait in a file that nobody has open,
-- is the same in public where the deeds before are.
use Rattle.std.proofs.Common.{◌≡◌, ℕ, List, [], ◌∷◌, map, Bool, true, false, cond, eqb, ◌&&◌, ◌||◌, not, Option, Some, None, refl, sym, ap, ◌∙◌, subst}
use Rattle.std.specs.Prelude.{find, option_map, is_some}
use Rattle.std.specs.List.{list_any, list_all}
use Rattle.std.proofs.lemmas.Bool.{and_parts, not-true}
use Rattle.nine.specs.declared.message.RBody.TheVariants as r
use Rattle.talks.specs.declared.answer.RpcAnswer.{RpcAnswer}
use Rattle.talks.specs.Calls as calls
use Rattle.talks.specs.Standings.{Phase, Standing, Resting, Waiting, Seeking, OnConfirm, OnNeedkey, OnServer, Kept, standing, then_stands}
use Rattle.side_files.specs.declared.line.PromptKind.{PromptKind}
use Rattle.side_files.specs.declared.line.PromptKind.TheVariants as k
use Rattle.side_files.specs.declared.prompt.Asker.{Asker}
use Rattle.side_files.specs.Calls as side
use Rattle.side_files.specs.Questions as asked
use Rattle.agent_history.specs.Deeds.{Deed, OfReplies, OfTalk, OfPrompts, Settled, holder_of}
use Rattle.agent_history.specs.Replies.{Wait, is_unsettled, waits}
use Rattle.agent_history.specs.SideFiles.{askers, file_of, prompt_calls}
use Rattle.agent_history.specs.Conversations.{Speaker, all_shut, all_withdrawn, closed, deliver_to, delivered, ended_by, fits, give_to, given_up_by, reader_of, shut, speaker_of, speakers, stands, standing_of, talk, then_took}
use Rattle.agent_history.specs.Requests.{has_answer}
use Rattle.agent_laws.specs.Laws.{each_once, in_public, waits_on}
use Rattle.agent_laws.proofs.KindLaws.{AskersStay, IsKnown, is_handed, same_number}
use Rattle.agent_laws.proofs.PromptLaws.{Prompted, waits_so}
use Rattle.agent_laws.proofs.MetLaws.{askers_stay, closed_grows, withdrawn_grows}
use Rattle.agent_laws.proofs.GrowLaws.{AnyDeeds, With, handed_is_done, with_known}
use Rattle.agent_laws.proofs.PublicLaws.{holder_public, prompts_public, saw, seen, seen_unsettled, waits_public}
use Rattle.agent_laws.proofs.SeenLaws.{speakers_public}

-- what is read off the deeds in public is the same where they are
pub same : {X : Type 0} (f : List Deed → X) → ((done : List Deed) → f (in_public done) ≡ f done) → (a b : List Deed) → in_public a ≡ in_public b → f a ≡ f b
same f h a b e = sym (h a) ∙ ap f e ∙ h b

-- ---- an answer that is delivered

abbrev shown_read : ℕ → Option Wait → List Deed → List Deed
shown_read conn None shown = shown
shown_read conn (Some wait) shown = OfReplies conn (Settled wait.tag r.Flush) ∷ shown

abbrev pub reads : ℕ → Wait → Bool
reads fid wait = eqb wait.fid fid && is_unsettled wait

abbrev shown_to : List Deed → Option Speaker → List Deed → List Deed
shown_to done None shown = shown
shown_to done (Some s) shown = shown_read s.conn (find (reads s.fid) (saw (waits done s.conn))) shown

read_seen : (conn : ℕ) (o : Option Wait) (shown : List Deed) → shown_read conn o shown ≡ shown_read conn (option_map seen o) shown
read_seen conn None shown = refl
read_seen conn (Some wait) shown = refl

seen_step : (w : Wait) (one other : Option Wait) (b : Bool) → option_map seen one ≡ other → option_map seen (cond b (Some w) one) ≡ cond b (Some (seen w)) other
seen_step w one other true e = refl
seen_step w one other false e = e

pub find_seen : (fid : ℕ) (ws : List Wait) → option_map seen (find (reads fid) ws) ≡ find (reads fid) (saw ws)
find_seen fid [] = refl
find_seen fid (w ∷ ws) =
    ap (λ (b : Bool). option_map seen (cond (eqb w.fid fid && b) (Some w) (find (reads fid) ws))) (sym (seen_unsettled w))
    ∙ seen_step w (find (reads fid) ws) (find (reads fid) (saw ws)) (eqb w.fid fid && is_unsettled (seen w)) (find_seen fid ws)

took_shown : (conv count : ℕ) (answer : RpcAnswer) (done : List Deed) → in_public (then_took conv count answer done) ≡ in_public done
took_shown conv count answer done = by_it (fits count answer)
  where
    by_it : (b : Bool) → in_public (cond b (OfTalk conv calls.Took ∷ done) done) ≡ in_public done
    by_it true = refl
    by_it false = refl

give_shown : (conv conn : ℕ) (answer : RpcAnswer) (o : Option Wait) (done : List Deed) → in_public (give_to conv conn answer o done) ≡ shown_read conn o (in_public done)
give_shown conv conn answer None done = refl
give_shown conv conn answer (Some wait) done = ap (λ (shown : List Deed). OfReplies conn (Settled wait.tag r.Flush) ∷ shown) (took_shown conv wait.count answer done)

deliver_shown : (conv : ℕ) (ph : Phase) (o : Option Speaker) (done : List Deed) → has_answer ph ≡ true → in_public (deliver_to conv ph o done) ≡ shown_to done o (in_public done)
deliver_shown conv (Kept answer) None done e = refl
deliver_shown conv (Kept answer) (Some s) done e =
    give_shown conv s.conn answer (reader_of done s) done
    ∙ read_seen s.conn (reader_of done s) (in_public done)
    ∙ ap (λ (o : Option Wait). shown_read s.conn o (in_public done)) (find_seen s.fid (waits done s.conn))
deliver_shown conv Resting o done e = absurd cc
deliver_shown conv (Waiting request) o done e = absurd cc
deliver_shown conv Seeking o done e = absurd cc
deliver_shown conv (OnConfirm serial) o done e = absurd cc
deliver_shown conv OnNeedkey o done e = absurd cc
deliver_shown conv OnServer o done e = absurd cc

to_alike : (a b : List Deed) (o : Option Speaker) (shown : List Deed) → in_public a ≡ in_public b → shown_to a o shown ≡ shown_to b o shown
to_alike a b None shown e = refl
to_alike a b (Some s) shown e = ap (λ (ws : List Wait). shown_read s.conn (find (reads s.fid) ws) shown) (same (λ done. saw (waits done s.conn)) (λ done. waits_public done s.conn) a b e)

deliver_alike : (conv : ℕ) (a b : List Deed) → has_answer (standing_of a conv).phase ≡ true → has_answer (standing_of b conv).phase ≡ true → in_public a ≡ in_public b
    → in_public (delivered conv a) ≡ in_public (delivered conv b)
deliver_alike conv a b one other e =
    deliver_shown conv (standing_of a conv).phase (speaker_of a conv) a one
    ∙ ap (λ (ss : List Speaker). shown_to a (find (λ s. eqb s.conv conv) ss) (in_public a)) (same speakers speakers_public a b e)
    ∙ ap (shown_to a (speaker_of b conv)) e
    ∙ to_alike a b (speaker_of b conv) (in_public b) e
    ∙ sym (deliver_shown conv (standing_of b conv).phase (speaker_of b conv) b other)

-- ---- requests that wait in a file that is closed

shut_kept : (kind : PromptKind) (s : Standing) (ph : Phase) → waits_on kind ph ≡ true → has_answer (then_stands s ph calls.Shut).phase ≡ true
shut_kept k.Confirm s (OnConfirm serial) w = refl
shut_kept k.Needkey s OnNeedkey w = refl
shut_kept k.Confirm s OnNeedkey w = absurd cc
shut_kept k.Needkey s (OnConfirm serial) w = absurd cc
shut_kept k.Confirm s Resting w = absurd cc
shut_kept k.Needkey s Resting w = absurd cc
shut_kept k.Confirm s (Waiting request) w = absurd cc
shut_kept k.Needkey s (Waiting request) w = absurd cc
shut_kept k.Confirm s Seeking w = absurd cc
shut_kept k.Needkey s Seeking w = absurd cc
shut_kept k.Confirm s OnServer w = absurd cc
shut_kept k.Needkey s OnServer w = absurd cc
shut_kept k.Confirm s (Kept answer) w = absurd cc
shut_kept k.Needkey s (Kept answer) w = absurd cc

pub shut_answers : (kind : PromptKind) (conv : ℕ) (done : List Deed) → waits_on kind (standing_of done conv).phase ≡ true → has_answer (standing_of (OfTalk conv calls.Shut ∷ OfPrompts kind (side.Withdrawn conv) ∷ done) conv).phase ≡ true
shut_answers kind conv done w =
    ap (λ (b : Bool). has_answer (standing (cond b (calls.Shut ∷ talk done conv) (talk done conv))).phase) (same_number conv) ∙ shut_kept kind (standing_of done conv) (standing_of done conv).phase w

shut_alike : (kind : PromptKind) (conv : ℕ) (a b : List Deed) → waits_on kind (standing_of a conv).phase ≡ true → waits_on kind (standing_of b conv).phase ≡ true → in_public a ≡ in_public b
    → in_public (shut kind conv a) ≡ in_public (shut kind conv b)
shut_alike kind conv a b one other e =
    deliver_alike conv (OfTalk conv calls.Shut ∷ OfPrompts kind (side.Withdrawn conv) ∷ a) (OfTalk conv calls.Shut ∷ OfPrompts kind (side.Withdrawn conv) ∷ b) (shut_answers kind conv a one) (shut_answers kind conv b other)
    (ap (λ (shown : List Deed). OfPrompts kind (side.Withdrawn conv) ∷ shown) e)

-- the others stand as they did
took_talk : (conv count : ℕ) (answer : RpcAnswer) (done : List Deed) (n : ℕ) → eqb conv n ≡ false → talk (then_took conv count answer done) n ≡ talk done n
took_talk conv count answer done n off = by_it (fits count answer)
  where
    by_it : (b : Bool) → talk (cond b (OfTalk conv calls.Took ∷ done) done) n ≡ talk done n
    by_it true = rw off refl
    by_it false = refl

give_talk : (conv conn : ℕ) (answer : RpcAnswer) (o : Option Wait) (done : List Deed) (n : ℕ) → eqb conv n ≡ false → talk (give_to conv conn answer o done) n ≡ talk done n
give_talk conv conn answer None done n off = refl
give_talk conv conn answer (Some wait) done n off = took_talk conv wait.count answer done n off

deliver_talk : (conv : ℕ) (ph : Phase) (o : Option Speaker) (done : List Deed) (n : ℕ) → eqb conv n ≡ false → talk (deliver_to conv ph o done) n ≡ talk done n
deliver_talk conv (Kept answer) None done n off = refl
deliver_talk conv (Kept answer) (Some s) done n off = give_talk conv s.conn answer (reader_of done s) done n off
deliver_talk conv Resting o done n off = refl
deliver_talk conv (Waiting request) o done n off = refl
deliver_talk conv Seeking o done n off = refl
deliver_talk conv (OnConfirm serial) o done n off = refl
deliver_talk conv OnNeedkey o done n off = refl
deliver_talk conv OnServer o done n off = refl

shut_talk : (kind : PromptKind) (conv : ℕ) (done : List Deed) (n : ℕ) → eqb conv n ≡ false → talk (shut kind conv done) n ≡ talk done n
shut_talk kind conv done n off =
    let two = OfTalk conv calls.Shut ∷ OfPrompts kind (side.Withdrawn conv) ∷ done in
    deliver_talk conv (standing_of two conv).phase (speaker_of two conv) two n off ∙ ap (λ (b : Bool). cond b (calls.Shut ∷ talk done n) (talk done n)) off

pub others_wait : (kind : PromptKind) (conv : ℕ) (done : List Deed) (convs : List ℕ) → list_any (eqb conv) convs ≡ false → list_all (λ n. waits_on kind (standing_of done n).phase) convs ≡ true
    → list_all (λ n. waits_on kind (standing_of (shut kind conv done) n).phase) convs ≡ true
others_wait kind conv done [] off h = refl
others_wait kind conv done (n ∷ convs) off h =
    let parts = and_parts (waits_on kind (standing_of done n).phase) (list_all (λ m. waits_on kind (standing_of done m).phase) convs) h in
    let apart = neither_of (eqb conv n) (list_any (eqb conv) convs) off in
    rw (ap (λ (calls_of : List calls.Call). waits_on kind (standing calls_of).phase) (shut_talk kind conv done n apart.0) ∙ parts.0, others_wait kind conv done convs apart.1 parts.1) refl
  where
    neither_of : (x y : Bool) → (x || y) ≡ false → (x ≡ false) × (y ≡ false)
    neither_of false false e = (refl, refl)
    neither_of false true e = absurd cc
    neither_of true y e = absurd cc

all_shut_alike : (kind : PromptKind) (convs : List ℕ) (a b : List Deed) → list_all (λ n. waits_on kind (standing_of a n).phase) convs ≡ true → list_all (λ n. waits_on kind (standing_of b n).phase) convs ≡ true
    → each_once convs ≡ true → in_public a ≡ in_public b → in_public (all_shut kind convs a) ≡ in_public (all_shut kind convs b)
all_shut_alike kind [] a b one other once e = e
all_shut_alike kind (conv ∷ convs) a b one other once e =
    let p = and_parts (waits_on kind (standing_of a conv).phase) (list_all (λ m. waits_on kind (standing_of a m).phase) convs) one in
    let q = and_parts (waits_on kind (standing_of b conv).phase) (list_all (λ m. waits_on kind (standing_of b m).phase) convs) other in
    let apart = and_parts (not (list_any (eqb conv) convs)) (each_once convs) once in
    let off = not-true (list_any (eqb conv) convs) apart.0 in
    all_shut_alike kind convs (shut kind conv a) (shut kind conv b) (others_wait kind conv a convs off p.1) (others_wait kind conv b convs off q.1) apart.1 (shut_alike kind conv a b p.0 q.0 e)

pub they_wait : (done : List Deed) (kind : PromptKind) (convs : List ℕ) → list_all (waits_so done kind) convs ≡ true → list_all (λ n. waits_on kind (standing_of done n).phase) convs ≡ true
they_wait done kind [] h = refl
they_wait done kind (n ∷ convs) h =
    let parts = and_parts (waits_so done kind n) (list_all (waits_so done kind) convs) h in
    rw ((and_parts (stands done n) (waits_on kind (standing_of done n).phase) parts.0).1, they_wait done kind convs parts.1) refl

pub askers_alike : (kind : PromptKind) (a b : List Deed) → in_public a ≡ in_public b → askers a kind ≡ askers b kind
askers_alike kind a b e = ap (λ (cs : List side.Call). map (λ (w : Asker). w.conv) (asked.standing (side.after kind cs))) (same (λ done. prompt_calls done kind) (λ done. prompts_public done kind) a b e)

closed_alike : (kind : PromptKind) (a b : List Deed) → Prompted a → Prompted b → in_public a ≡ in_public b → in_public (closed kind a) ≡ in_public (closed kind b)
closed_alike kind a b one other e =
    ap (λ (o : Option (ℕ × ℕ)). in_public (cond (is_some o) a (all_shut kind (askers a kind) a))) (same (λ done. holder_of done (file_of kind)) (λ done. holder_public done (file_of kind)) a b e)
    ∙ ap (λ (ns : List ℕ). in_public (cond (is_some (holder_of b (file_of kind))) a (all_shut kind ns a))) (askers_alike kind a b e)
    ∙ by_it (is_some (holder_of b (file_of kind)))
  where
    by_it : (held : Bool) → in_public (cond held a (all_shut kind (askers b kind) a)) ≡ in_public (cond held b (all_shut kind (askers b kind) b))
    by_it true = e
    by_it false =
        let p = and_parts (list_all (waits_so a kind) (askers a kind)) (each_once (askers a kind)) (one kind) in
        let q = and_parts (list_all (waits_so b kind) (askers b kind)) (each_once (askers b kind)) (other kind) in
        all_shut_alike kind (askers b kind) a b
        (they_wait a kind (askers b kind) (subst (λ (ns : List ℕ). list_all (waits_so a kind) ns ≡ true) (askers_alike kind a b e) p.0))
        (they_wait b kind (askers b kind) q.0) q.1 e

-- ---- fids that are given up

withdrawn_alike : (leaving : List ℕ) (a b : List Deed) → in_public a ≡ in_public b → in_public (all_withdrawn leaving a) ≡ in_public (all_withdrawn leaving b)
withdrawn_alike [] a b e = e
withdrawn_alike (conv ∷ leaving) a b e =
    withdrawn_alike leaving (OfPrompts k.Needkey (side.Withdrawn conv) ∷ OfPrompts k.Confirm (side.Withdrawn conv) ∷ a) (OfPrompts k.Needkey (side.Withdrawn conv) ∷ OfPrompts k.Confirm (side.Withdrawn conv) ∷ b)
    (ap (λ (shown : List Deed). OfPrompts k.Needkey (side.Withdrawn conv) ∷ OfPrompts k.Confirm (side.Withdrawn conv) ∷ shown) e)

-- what is known of questions, while they end
pub record IsGivenUp (deed : Deed) (done : List Deed) : Type 0 where
  pub speaks : speakers (deed ∷ all_withdrawn (ended_by deed done) done) ≡ speakers (deed ∷ done)
  pub goes_on : AskersStay (all_withdrawn (ended_by deed done) done) deed → IsKnown (all_withdrawn (ended_by deed done) done) → IsKnown (deed ∷ all_withdrawn (ended_by deed done) done)
  pub known : IsKnown done

abbrev Knows : List Deed → Type 0
Knows done = With (Unit {0}) AnyDeeds done

pub withdrawn_known : (deed : Deed) (done : List Deed) → IsKnown done → Knows (all_withdrawn (ended_by deed done) done)
withdrawn_known deed done known =
    withdrawn_grows (Unit {0}) (With (Unit {0}) AnyDeeds) (with_known (Unit {0}) AnyDeeds 0 is_handed (handed_is_done 0) (λ d x is fits p. tt)) (ended_by deed done) done (tt, λ _. known)

pub left_known : (deed : Deed) (done : List Deed) → IsGivenUp deed done → IsKnown (deed ∷ all_withdrawn (ended_by deed done) done)
left_known deed done g = g.goes_on (askers_stay deed done g.known.prompted g.speaks) ((withdrawn_known deed done g.known).1 tt)

pub closed_known : (kind : PromptKind) (done : List Deed) → IsKnown done → IsKnown (closed kind done)
closed_known kind done known =
    (closed_grows (Unit {0}) (With (Unit {0}) AnyDeeds) (λ d q. q.1) (with_known (Unit {0}) AnyDeeds 0 is_handed (handed_is_done 0) (λ d x is fits p. tt)) kind done (tt, λ _. known)).1 tt

pub given_up_alike : (deed : Deed) (a b : List Deed) → IsGivenUp deed a → IsGivenUp deed b → ended_by deed a ≡ ended_by deed b
    → ((x y : List Deed) → in_public x ≡ in_public y → in_public (deed ∷ x) ≡ in_public (deed ∷ y)) → in_public a ≡ in_public b → in_public (given_up_by deed a) ≡ in_public (given_up_by deed b)
given_up_alike deed a b one other ends more e =
    let da = all_withdrawn (ended_by deed a) a in
    let db = all_withdrawn (ended_by deed b) b in
    let left = more da db (ap (λ (ns : List ℕ). in_public (all_withdrawn ns a)) ends ∙ withdrawn_alike (ended_by deed b) a b e) in
    let ka = left_known deed a one in
    let kb = left_known deed b other in
    closed_alike k.Needkey (closed k.Confirm (deed ∷ da)) (closed k.Confirm (deed ∷ db)) (closed_known k.Confirm (deed ∷ da) ka).prompted (closed_known k.Confirm (deed ∷ db) kb).prompted
    (closed_alike k.Confirm (deed ∷ da) (deed ∷ db) ka.prompted kb.prompted left)

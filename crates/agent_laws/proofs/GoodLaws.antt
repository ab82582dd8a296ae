-- What conversations meet and how they end leaves each that waits with its question, and nobody reading where nothing is waited for.
use Rattle.std.proofs.Common.{◌≡◌, ℕ, List, [], ◌∷◌, map, Bool, true, false, cond, eqb, ltb, ◌||◌, not, Option, Some, None, refl, sym, ap, subst, ◌∙◌}
use Rattle.std.specs.Prelude.{is_some}
use Rattle.std.specs.List.{filter, list_all, list_any}
use Rattle.std.proofs.lemmas.Bool.{and_from, and_parts, eqb-true, not-true}
use Rattle.attr_tuples.proofs.EqualityLemmas.{eqb_swap}
use Rattle.side_files.specs.declared.line.PromptKind.{PromptKind}
use Rattle.side_files.specs.declared.line.PromptKind.TheVariants as pk
use Rattle.side_files.specs.declared.prompt.Asker.{Asker}
use Rattle.side_files.specs.Calls as side
use Rattle.side_files.specs.Lines.{found}
use Rattle.side_files.specs.Questions.{Questions, asker_of, withdrawn}
use Rattle.side_files.specs.Questions as asked
use Rattle.roles.specs.Talks.{heard, unheard, roomless}
use Rattle.talks.specs.Calls as calls
use Rattle.talks.specs.Standings.{Phase, Resting, Waiting, Seeking, OnConfirm, OnNeedkey, OnServer, Kept, Standing, then_stands}
use Rattle.agent_history.specs.Deeds.{Deed, OfTalk, OfPrompts, holder_of}
use Rattle.agent_history.specs.SideFiles.{askers, file_of, prompt_calls, prompts_of}
use Rattle.agent_history.specs.Conversations.{Speaker, all_shut, all_withdrawn, asker, closed, delivered, ended_by, given_up_by, met, opened_talks, resumed, shut, speakers, standing_of, stands, talk}
use Rattle.agent_history.specs.Requests.{has_answer, said_by}
use Rattle.agent_laws.specs.Laws.{asks_server, asks_user, each_once, is_on_server, waits_on}
use Rattle.agent_laws.proofs.AskLaws.{asker_is_asked, or_more}
use Rattle.agent_laws.proofs.ConversationLaws.{Rise, SpeakersRise, number, rise_parts}
use Rattle.agent_laws.proofs.GrowLaws.{delivered_any, either_way, met_any, met_by}
use Rattle.agent_laws.proofs.KindLaws.{IsKnown}
use Rattle.agent_laws.proofs.PromptLaws.{asker_waits, askers_in, waits_so, withdrawn_others}
use Rattle.agent_laws.proofs.ShutLaws.{IsGivenUp, closed_known, left_known, others_wait, shut_answers, they_wait}
use Rattle.agent_laws.proofs.StepLaws.{begin_met, is_up, made_up, Apart, Ground, Meets, Others, Still, call_meets, delivered_met, delivered_talk, other_talk, others_of_all, raised_none, still_ground, still_itself, still_more}
use Rattle.agent_laws.proofs.TagLaws.{all_ask, others_ask}
use Rattle.agent_laws.proofs.ViewLaws.{AllMet, Alike, alike_all, all_of_met, seen, wants_more}

-- no conversation met anything that isn't opened yet
abbrev pub Fresh : List Deed → Type 0
Fresh done = (n : ℕ) → ltb n (opened_talks done) ≡ false → talk done n ≡ []

pub record Good (done : List Deed) : Type 0 where
  pub met : AllMet done
  pub fresh : Fresh done

pub alike_good : (old new : List Deed) → Alike old new → Good old → Good new
alike_good old new a g = record {
  met = alike_all old new a g.met;
  fresh = λ n off. a.talks n ∙ g.fresh n (ap (ltb n) (sym a.opened) ∙ off);
}

pub good_either : (b : Bool) (one other : List Deed) → Good one → Good other → Good (cond b one other)
good_either true one other p q = p
good_either false one other p q = q

-- a conversation that is opened isn't another that isn't
apart_number : (c n top : ℕ) → ltb c top ≡ true → ltb n top ≡ false → (b : Bool) → eqb c n ≡ b → b ≡ false
apart_number c n top below off true e = absurd (let no_way : true ≡ false = sym below ∙ (ap (λ (m : ℕ). ltb m top) (eqb-true c n e) ∙ off) in cc)
apart_number c n top below off false e = refl

pub apart_fresh : (c : ℕ) (old new : List Deed) → Apart c old new → opened_talks new ≡ opened_talks old → ltb c (opened_talks old) ≡ true → Fresh old → Fresh new
apart_fresh c old new apart same below fresh n off =
    let was : ltb n (opened_talks old) ≡ false = ap (ltb n) (sym same) ∙ off in
    let other = apart_number c n (opened_talks old) below was (eqb c n) refl in
    apart n other ∙ fresh n was

-- a conversation that stands was opened
speaks_below : (top : ℕ) (xs : List Speaker) (conv : ℕ) → Rise top (map number xs) → list_any (λ s. eqb s.conv conv) xs ≡ true → ltb conv top ≡ true
speaks_below top [] conv rise e = absurd cc
speaks_below top (s ∷ xs) conv rise e =
    let parts = rise_parts top s.conv (map number xs) rise in
    by_it (eqb s.conv conv) refl e parts.below (λ f. speaks_below top xs conv parts.rest f)
  where
    by_it : (b : Bool) → eqb s.conv conv ≡ b → (b || list_any (λ s. eqb s.conv conv) xs) ≡ true → ltb s.conv top ≡ true → (list_any (λ s. eqb s.conv conv) xs ≡ true → ltb conv top ≡ true) → ltb conv top ≡ true
    by_it true is f first more = ap (λ (n : ℕ). ltb n top) (sym (eqb-true s.conv conv is)) ∙ first
    by_it false is f first more = more f

pub stands_below : (done : List Deed) (conv : ℕ) → SpeakersRise done → stands done conv ≡ true → ltb conv (opened_talks done) ≡ true
stands_below done conv rise e = speaks_below (opened_talks done) (speakers done) conv rise e

-- ---- a conversation meets what it waited for

pub met_still : (c : ℕ) (call : calls.Call) (old done : List Deed) → Still old done → Still old (met c call done)
met_still c call old done s = met_any (Still old) (still_more old) c call done s

delivered_still : (c : ℕ) (old done : List Deed) → Still old done → Still old (delivered c done)
delivered_still c old done s = delivered_any (Still old) (met_by (Still old) (still_more old)) c done s

goes_good : (c : ℕ) (call : calls.Call) (done : List Deed) → Ground done → ltb c (opened_talks done) ≡ true → Fresh done → Meets c done (met c call done) → Good (delivered c (met c call done))
goes_good c call done g below fresh m =
    let now = met c call done in
    let s = met_still c call done done (still_itself done) in
    let t = delivered_still c done now s in
    record {
      met = all_of_met c (delivered c now) (delivered_met c now (still_ground done now s g) m.met);
      fresh = apart_fresh c done (delivered c now) (λ conv e. delivered_talk c now conv e ∙ m.apart conv e) t.opened below fresh;
    }

-- the authentication server is done with its question
abbrev is_answer : calls.Call → Bool
is_answer (calls.Heard bytes) = true
is_answer calls.Unheard = true
is_answer calls.Roomless = true
is_answer call = false

answer_up : (s : Standing) (ph : Phase) (call : calls.Call) → s.phase ≡ ph → is_on_server ph ≡ true → is_answer call ≡ true → is_up (then_stands s ph call).phase ≡ true
answer_up s OnServer (calls.Heard bytes) on asks is = made_up s (heard bytes) s.begun (ap is_up on)
answer_up s OnServer calls.Unheard on asks is = made_up s unheard s.begun (ap is_up on)
answer_up s OnServer calls.Roomless on asks is = made_up s roomless s.begun (ap is_up on)
answer_up s OnServer (calls.Stored request) on asks is = absurd cc
answer_up s OnServer (calls.CarriedOut word) on asks is = absurd cc
answer_up s OnServer (calls.Sought found) on asks is = absurd cc
answer_up s OnServer (calls.Consented agrees) on asks is = absurd cc
answer_up s OnServer calls.KeyTold on asks is = absurd cc
answer_up s OnServer calls.Shut on asks is = absurd cc
answer_up s OnServer calls.Took on asks is = absurd cc
answer_up s Resting call on asks is = absurd cc
answer_up s (Waiting request) call on asks is = absurd cc
answer_up s Seeking call on asks is = absurd cc
answer_up s (OnConfirm serial) call on asks is = absurd cc
answer_up s OnNeedkey call on asks is = absurd cc
answer_up s (Kept answer) call on asks is = absurd cc

-- what is known while an event goes on
pub record Known (done : List Deed) : Type 0 where
  pub ground : Ground done
  pub known : IsKnown done

pub answer_good : (call : calls.Call) (number : ℕ) (o : Option ℕ) (done : List Deed) → is_answer call ≡ true → asker done number ≡ o → Known done → Good done → Good (resumed o call done)
answer_good call number None done is e k g = g
answer_good call number (Some c) done is e k g =
    let parts = and_parts (stands done c) (asks_server done c) (asker_is_asked done number c e k.known.asked) in
    goes_good c call done k.ground (stands_below done c k.ground.rise parts.0) g.fresh
    (call_meets c call done (others_of_all c done g.met) (answer_up (standing_of done c) (standing_of done c).phase call refl parts.1 is))

-- its user replied
said_up : (kind : PromptKind) (agrees : Bool) (s : Standing) (ph : Phase) → waits_on kind ph ≡ true → is_up (then_stands s ph (said_by kind agrees)).phase ≡ true
said_up pk.Confirm agrees s (OnConfirm serial) w = refl
said_up pk.Confirm agrees s Resting w = absurd cc
said_up pk.Confirm agrees s (Waiting request) w = absurd cc
said_up pk.Confirm agrees s Seeking w = absurd cc
said_up pk.Confirm agrees s OnNeedkey w = absurd cc
said_up pk.Confirm agrees s OnServer w = absurd cc
said_up pk.Confirm agrees s (Kept answer) w = absurd cc
said_up pk.Needkey agrees s OnNeedkey w = refl
said_up pk.Needkey agrees s Resting w = absurd cc
said_up pk.Needkey agrees s (Waiting request) w = absurd cc
said_up pk.Needkey agrees s Seeking w = absurd cc
said_up pk.Needkey agrees s (OnConfirm serial) w = absurd cc
said_up pk.Needkey agrees s OnServer w = absurd cc
said_up pk.Needkey agrees s (Kept answer) w = absurd cc

-- what is done with the questions of one leaves those of the others
prompts_others : (kind : PromptKind) (call : side.Call) (c : ℕ) (done : List Deed) → ((conv : ℕ) → eqb c conv ≡ false → asks_user done kind conv ≡ true → list_any (eqb conv) (askers_in (side.after kind (call ∷ prompt_calls done kind))) ≡ true)
    → Others c done → Others c (OfPrompts kind call ∷ done)
prompts_others pk.Confirm call c done stay others conn fid conv e at =
    wants_more true true (seen done conn fid conv) (seen (OfPrompts pk.Confirm call ∷ done) conn fid conv) (standing_of done conv).phase
    (record { idle = λ is. is; asked = λ is. is; confirm = stay conv e; needkey = λ is. is }) (others conn fid conv e at)
prompts_others pk.Needkey call c done stay others conn fid conv e at =
    wants_more true true (seen done conn fid conv) (seen (OfPrompts pk.Needkey call ∷ done) conn fid conv) (standing_of done conv).phase
    (record { idle = λ is. is; asked = λ is. is; confirm = λ is. is; needkey = stay conv e }) (others conn fid conv e at)

prompts_still : (kind : PromptKind) (call : side.Call) (done : List Deed) → Still done (OfPrompts kind call ∷ done)
prompts_still kind call done = still_more done done (OfPrompts kind call) refl (still_itself done)

-- a reply under a tag that nobody asked under
replied_alike : (kind : PromptKind) (tag : ℕ) (done : List Deed) → asker_of tag (prompts_of done kind) ≡ None → Alike done (OfPrompts kind (side.Replied tag) ∷ done)
replied_alike pk.Confirm tag done e = record {
  seats = λ conn fid conv at. at;
  sees = λ conn fid conv at. record { idle = λ is. is; asked = λ is. is; confirm = λ is. ap (list_any (eqb conv)) (all_ask tag (prompts_of done pk.Confirm) e) ∙ is; needkey = λ is. is };
  talks = λ conv. refl;
  opened = refl;
}
replied_alike pk.Needkey tag done e = record {
  seats = λ conn fid conv at. at;
  sees = λ conn fid conv at. record { idle = λ is. is; asked = λ is. is; confirm = λ is. is; needkey = λ is. ap (list_any (eqb conv)) (all_ask tag (prompts_of done pk.Needkey) e) ∙ is };
  talks = λ conv. refl;
  opened = refl;
}

pub reply_good : (kind : PromptKind) (tag : ℕ) (agrees : Bool) (o : Option ℕ) (done : List Deed) → asker_of tag (prompts_of done kind) ≡ o → Known done → Good done → Good (resumed o (said_by kind agrees) (OfPrompts kind (side.Replied tag) ∷ done))
reply_good kind tag agrees None done e k g = alike_good done (OfPrompts kind (side.Replied tag) ∷ done) (replied_alike kind tag done e) g
reply_good kind tag agrees (Some c) done e k g =
    let one = OfPrompts kind (side.Replied tag) ∷ done in
    let parts = and_parts (stands done c) (waits_on kind (standing_of done c).phase) (asker_waits done kind tag c e (k.known.prompted kind)) in
    let others = prompts_others kind (side.Replied tag) c done (λ conv off there. others_ask kind (prompt_calls done kind) tag c conv e off there) (others_of_all c done g.met) in
    goes_good c (said_by kind agrees) one (still_ground done one (prompts_still kind (side.Replied tag) done) k.ground) (stands_below done c k.ground.rise parts.0) g.fresh
    (call_meets c (said_by kind agrees) one others (said_up kind agrees (standing_of done c) (standing_of done c).phase parts.1))

-- ---- ends

shut_up : (kind : PromptKind) (s : Standing) (ph : Phase) → waits_on kind ph ≡ true → is_up (then_stands s ph calls.Shut).phase ≡ true
shut_up pk.Confirm s (OnConfirm serial) w = refl
shut_up pk.Confirm s Resting w = absurd cc
shut_up pk.Confirm s (Waiting request) w = absurd cc
shut_up pk.Confirm s Seeking w = absurd cc
shut_up pk.Confirm s OnNeedkey w = absurd cc
shut_up pk.Confirm s OnServer w = absurd cc
shut_up pk.Confirm s (Kept answer) w = absurd cc
shut_up pk.Needkey s OnNeedkey w = refl
shut_up pk.Needkey s Resting w = absurd cc
shut_up pk.Needkey s (Waiting request) w = absurd cc
shut_up pk.Needkey s Seeking w = absurd cc
shut_up pk.Needkey s (OnConfirm serial) w = absurd cc
shut_up pk.Needkey s OnServer w = absurd cc
shut_up pk.Needkey s (Kept answer) w = absurd cc

-- the questions of one are withdrawn, and those of the others aren't
others_there : (c conv : ℕ) (ws : List Asker) → eqb c conv ≡ false → list_any (eqb conv) (map (λ (a : Asker). a.conv) ws) ≡ true → list_any (eqb conv) (map (λ (a : Asker). a.conv) (filter (λ (a : Asker). not (eqb a.conv c)) ws)) ≡ true
others_there c conv [] off e = absurd cc
others_there c conv (w ∷ ws) off e = by_it (eqb conv w.conv) refl e off (λ f. others_there c conv ws off f)
  where
    rest : List ℕ
    rest = map (λ (a : Asker). a.conv) (filter (λ (a : Asker). not (eqb a.conv c)) ws)

    any_rest : (b : Bool) → list_any (eqb conv) rest ≡ true → list_any (eqb conv) (map (λ (a : Asker). a.conv) (cond b (w ∷ filter (λ (a : Asker). not (eqb a.conv c)) ws) (filter (λ (a : Asker). not (eqb a.conv c)) ws))) ≡ true
    any_rest true f = or_more (eqb conv w.conv) (list_any (eqb conv) rest) f
    any_rest false f = f

    by_it : (b : Bool) → eqb conv w.conv ≡ b → (b || list_any (eqb conv) (map (λ (a : Asker). a.conv) ws)) ≡ true → eqb c conv ≡ false
        → (list_any (eqb conv) (map (λ (a : Asker). a.conv) ws) ≡ true → list_any (eqb conv) (map (λ (a : Asker). a.conv) (filter (λ (a : Asker). not (eqb a.conv c)) ws)) ≡ true)
        → list_any (eqb conv) (map (λ (a : Asker). a.conv) (filter (λ (a : Asker). not (eqb a.conv c)) (w ∷ ws))) ≡ true
    by_it true is f off more =
        let kept : eqb w.conv c ≡ false = ap (λ (n : ℕ). eqb n c) (sym (eqb-true conv w.conv is)) ∙ (eqb_swap conv c ∙ off) in
        rw (kept, is) refl
    by_it false is f off more = any_rest (not (eqb w.conv c)) (more f)

pub withdrawn_asks : (c conv : ℕ) (q : Questions) → eqb c conv ≡ false → list_any (eqb conv) (askers_in q) ≡ true → list_any (eqb conv) (askers_in (withdrawn c q)) ≡ true
withdrawn_asks c conv q off e = ap (λ (ws : List Asker). list_any (eqb conv) (map (λ (a : Asker). a.conv) ws)) (withdrawn_others c q) ∙ others_there c conv (asked.standing q) off e

kept_off_server : (ph : Phase) → has_answer ph ≡ true → is_on_server ph ≡ false
kept_off_server (Kept answer) e = refl
kept_off_server Resting e = absurd cc
kept_off_server (Waiting request) e = absurd cc
kept_off_server Seeking e = absurd cc
kept_off_server (OnConfirm serial) e = absurd cc
kept_off_server OnNeedkey e = absurd cc
kept_off_server OnServer e = absurd cc

shut_still : (kind : PromptKind) (c : ℕ) (done : List Deed) → Still done (shut kind c done)
shut_still kind c done =
    let one = OfPrompts kind (side.Withdrawn c) ∷ done in
    let two = OfTalk c calls.Shut ∷ one in
    delivered_still c done two (still_more done one (OfTalk c calls.Shut) refl (prompts_still kind (side.Withdrawn c) done))

shut_good : (kind : PromptKind) (c : ℕ) (done : List Deed) → Ground done → waits_on kind (standing_of done c).phase ≡ true → ltb c (opened_talks done) ≡ true → Good done → Good (shut kind c done)
shut_good kind c done ground w below g =
    let one = OfPrompts kind (side.Withdrawn c) ∷ done in
    let two = OfTalk c calls.Shut ∷ one in
    let others = prompts_others kind (side.Withdrawn c) c done (λ conv off there. withdrawn_asks c conv (prompts_of done kind) off there) (others_of_all c done g.met) in
    let began = begin_met c calls.Shut one others (shut_up kind (standing_of done c) (standing_of done c).phase w) in
    let off = kept_off_server (standing_of two c).phase (shut_answers kind c done w) in
    let s = still_more done one (OfTalk c calls.Shut) refl (prompts_still kind (side.Withdrawn c) done) in
    record {
      met = all_of_met c (delivered c two) (delivered_met c two (still_ground done two s ground) (raised_none c two off began));
      fresh = apart_fresh c done (delivered c two) (λ conv e. delivered_talk c two conv e ∙ other_talk c calls.Shut one conv e) (delivered_still c done two s).opened below g.fresh;
    }

all_shut_good : (kind : PromptKind) (convs : List ℕ) (done : List Deed) → Ground done → list_all (λ n. waits_on kind (standing_of done n).phase) convs ≡ true → each_once convs ≡ true → list_all (λ n. ltb n (opened_talks done)) convs ≡ true
    → Good done → Good (all_shut kind convs done)
all_shut_good kind [] done ground w once below g = g
all_shut_good kind (c ∷ convs) done ground w once below g =
    let s = shut_still kind c done in
    let first = and_parts (waits_on kind (standing_of done c).phase) (list_all (λ n. waits_on kind (standing_of done n).phase) convs) w in
    let apart = and_parts (not (list_any (eqb c) convs)) (each_once convs) once in
    let under = and_parts (ltb c (opened_talks done)) (list_all (λ n. ltb n (opened_talks done)) convs) below in
    all_shut_good kind convs (shut kind c done) (still_ground done (shut kind c done) s ground)
    (others_wait kind c done convs (not-true (list_any (eqb c) convs) apart.0) first.1) apart.1
    (subst (λ n. list_all (λ m. ltb m n) convs ≡ true) (sym s.opened) under.1)
    (shut_good kind c done ground first.0 under.0 g)

all_shut_still : (kind : PromptKind) (convs : List ℕ) (old done : List Deed) → Still old done → Still old (all_shut kind convs done)
all_shut_still kind [] old done s = s
all_shut_still kind (c ∷ convs) old done s =
    let one = OfPrompts kind (side.Withdrawn c) ∷ done in
    let two = OfTalk c calls.Shut ∷ one in
    all_shut_still kind convs old (shut kind c done) (delivered_still c old two (still_more old one (OfTalk c calls.Shut) refl (still_more old done (OfPrompts kind (side.Withdrawn c)) refl s)))

askers_below : (done : List Deed) (kind : PromptKind) (convs : List ℕ) → SpeakersRise done → list_all (waits_so done kind) convs ≡ true → list_all (λ n. ltb n (opened_talks done)) convs ≡ true
askers_below done kind [] rise h = refl
askers_below done kind (n ∷ convs) rise h =
    let parts = and_parts (waits_so done kind n) (list_all (waits_so done kind) convs) h in
    and_from (ltb n (opened_talks done)) _ (stands_below done n rise (and_parts (stands done n) (waits_on kind (standing_of done n).phase) parts.0).0) (askers_below done kind convs rise parts.1)

closed_good : (kind : PromptKind) (done : List Deed) → Known done → Good done → Good (closed kind done)
closed_good kind done k g =
    let parts = and_parts (list_all (waits_so done kind) (askers done kind)) (each_once (askers done kind)) (k.known.prompted kind) in
    good_either (is_some (holder_of done (file_of kind))) done (all_shut kind (askers done kind) done) g
    (all_shut_good kind (askers done kind) done k.ground (they_wait done kind (askers done kind) parts.0) parts.1 (askers_below done kind (askers done kind) k.ground.rise parts.0) g)

closed_ground : (kind : PromptKind) (done : List Deed) → Ground done → Ground (closed kind done)
closed_ground kind done ground = either_way Ground (is_some (holder_of done (file_of kind))) done (all_shut kind (askers done kind) done) ground (still_ground done (all_shut kind (askers done kind) done) (all_shut_still kind (askers done kind) done done (still_itself done)) ground)

-- fids are given up by a deed
pub leaves_good : (deed : Deed) (done : List Deed) → IsGivenUp deed done → Alike done (deed ∷ all_withdrawn (ended_by deed done) done) → Ground (deed ∷ all_withdrawn (ended_by deed done) done) → Good done → Good (given_up_by deed done)
leaves_good deed done up alike ground g =
    let two = deed ∷ all_withdrawn (ended_by deed done) done in
    let known = left_known deed done up in
    let one = closed pk.Confirm two in
    closed_good pk.Needkey one (record { ground = closed_ground pk.Confirm two ground; known = closed_known pk.Confirm two known })
    (closed_good pk.Confirm two (record { ground = ground; known = known }) (alike_good done two alike g))

-- How a conversation stands, as it is shown without its secrets; and that each call changes what is shown by what is shown of
-- the call.
use Rattle.std.proofs.Common.{◌≡◌, ℕ, List, ◌∷◌, Bool, true, false, cond, Option, Some, None, refl, sym, ap, ◌∙◌, codes}
use Rattle.std.specs.Prelude.{option_map}
use Rattle.attr_tuples.specs.declared.attr.Attr.{Attr}
use Rattle.attr_tuples.specs.Matching.{value_of}
use Rattle.roles.specs.declared.answer.Cause.{Cause}
use Rattle.roles.specs.declared.need.Need.{Need}
use Rattle.roles.specs.declared.need.Need.TheVariants.{Nothing, Key, Offers, Pick, Exchange}
use Rattle.roles.specs.declared.need.Outcome.{Outcome}
use Rattle.roles.specs.declared.need.Outcome.TheVariants.{Running, Accepted, Finished, Broken}
use Rattle.roles.specs.Answers.{is_sought}
use Rattle.roles.specs.Talks.{found, offered, picked, undone, Call as Move}
use Rattle.talks.specs.Protocols.{answers, ends, needs}
use Rattle.talks.specs.declared.answer.RpcAnswer.{RpcAnswer}
use Rattle.talks.specs.declared.answer.RpcAnswer.TheVariants as a
use Rattle.talks.specs.declared.said.Said.{Said}
use Rattle.talks.specs.Answers.{move_answer, told_key}
use Rattle.talks.specs.Calls as calls
use Rattle.talks.specs.Calls.{Found, Chosen, AsksConsent, AsksKey, Denied, NoneServes, Offered, Picked}
use Rattle.talks.specs.Lines.{start_template}
use Rattle.talks.specs.Standings.{Begun, Phase, Resting, Waiting, Seeking, OnConfirm, OnNeedkey, OnServer, Kept, Standing, asks_for_key, chosen_for, is_for, moved, need_in, needs_key, phase_after, refused, sought_if, standing, then_stands, told_of_key, with_move}
use Rattle.agent_laws.specs.Shown.{ShownRequest, shown_request}
use Rattle.roles.specs.Starts.{Start}
use Rattle.agent_laws.proofs.LeadLaws.{Next, NextNeed, NoNeed, KeyNeed, OffersNeed, PickNeed, ServerNeed, any_key, next_need, next_of, behind_key, behind_offers, found_leads, offered_leads, picked_leads, undone_runs}
use Rattle.agent_laws.proofs.SeekLaws.{ShownFound, Chooses, WantsConsent, WantsKey, IsDenied, FindsNone, HasOffers, HasPick, shown_found}

-- ---- what is shown

abbrev pub led_after : Start → List Move → NextNeed
led_after start moves = next_need (needs start moves) (next_of (needs start (found any_key None ∷ moves)))

abbrev pub led_of : Option Begun → NextNeed
led_of None = NoNeed
led_of (Some b) = led_after b.start b.moves

-- how it has ended, if it has
pub data Ending : Type 0 where
  EndsNot : Ending
  EndsBy : (user : List ℕ) → Ending
  EndsAlone : Ending
  EndsBroken : (cause : Cause) → Ending

abbrev pub ending_of : Outcome → Ending
ending_of Running = EndsNot
ending_of (Accepted info) = EndsBy info.suid
ending_of Finished = EndsAlone
ending_of (Broken cause) = EndsBroken cause

abbrev pub endings : Option Begun → Option Ending
endings begun = option_map (λ b. ending_of (ends b.start b.moves)) begun

pub data ShownPhase : Type 0 where
  -- it has an answer, or no request
  Idle : ShownPhase
  Waits : (request : ShownRequest) → ShownPhase
  Seeks : (need : NextNeed) → ShownPhase
  AtConfirm : (serial : ℕ) (need : NextNeed) → ShownPhase
  AtNeedkey : (need : NextNeed) → ShownPhase
  AtServer : ShownPhase

pub record Shown : Type 0 where
  pub proto : Option (List ℕ)
  pub role : Option (List ℕ)
  pub ending : Option Ending
  pub phase : ShownPhase
  pub starting : Bool
  pub said : Said

abbrev pub shown_phase : Phase → NextNeed → ShownPhase
shown_phase Resting need = Idle
shown_phase (Kept answer) need = Idle
shown_phase (Waiting request) need = Waits (shown_request request)
shown_phase Seeking need = Seeks need
shown_phase (OnConfirm serial) need = AtConfirm serial need
shown_phase OnNeedkey need = AtNeedkey need
shown_phase OnServer need = AtServer

-- what the template of a start gives to a name
abbrev pub told_in : List ℕ → Option Begun → Option (List ℕ)
told_in name begun = value_of name (start_template begun)

abbrev pub shown_at : Option Begun → Phase → Bool → Said → Shown
shown_at begun phase starting said = record { proto = told_in (codes "proto") begun; role = told_in (codes "role") begun; ending = endings begun; phase = shown_phase phase (led_of begun); starting = starting; said = said }

abbrev pub shown : Standing → Shown
shown s = shown_at s.begun s.phase s.starting s.said

-- ---- the role met a move

abbrev pub settled : NextNeed → ShownPhase
settled NoNeed = Idle
settled (KeyNeed template next) = Seeks (KeyNeed template next)
settled (OffersNeed template) = Seeks (OffersNeed template)
settled (PickNeed templates) = Seeks (PickNeed templates)
settled ServerNeed = AtServer

settles : (need : Need) (next : Next) (answer : RpcAnswer) → shown_phase (phase_after need answer) (next_need need next) ≡ settled (next_need need next)
settles Nothing next answer = refl
settles (Key template) next answer = refl
settles (Offers template) next answer = refl
settles (Pick templates) next answer = refl
settles (Exchange request shape) next answer = refl

abbrev pub standing_at : Option Begun → Phase → Bool → Said → Standing
standing_at begun phase starting said = record { begun = begun; phase = phase; starting = starting; said = said }

-- as it is shown behind a move
abbrev pub behind : Option (List ℕ) → Option (List ℕ) → Ending → NextNeed → Bool → Said → Shown
behind proto role end need starting said = record { proto = proto; role = role; ending = Some end; phase = settled need; starting = starting; said = said }

pub moved_shown : (s : Standing) (b : Begun) (answer : RpcAnswer) → shown (moved s b answer) ≡ behind (told_in (codes "proto") (Some b)) (told_in (codes "role") (Some b)) (ending_of (ends b.start b.moves)) (led_after b.start b.moves) s.starting s.said
moved_shown s b answer =
    ap (λ (p : ShownPhase). record { proto = told_in (codes "proto") (Some b); role = told_in (codes "role") (Some b); ending = endings (Some b); phase = p; starting = s.starting; said = s.said })
    (settles (needs b.start b.moves) (next_of (needs b.start (found any_key None ∷ b.moves))) answer)

-- ---- a search

-- a request that is taken back
abbrev pub refused_shown : Shown → Shown
refused_shown t = cond t.starting (record { proto = told_in (codes "proto") None; role = told_in (codes "role") None; ending = None; phase = Idle; starting = t.starting; said = t.said }) (record { proto = t.proto; role = t.role; ending = option_map (λ _. EndsNot) t.ending; phase = Idle; starting = t.starting; said = t.said })

-- the phase alone is another
abbrev pub in_shown : Shown → ShownPhase → Said → Shown
in_shown t phase said = record { proto = t.proto; role = t.role; ending = t.ending; phase = phase; starting = t.starting; said = said }

-- what was needed came, and it runs on
abbrev runs_on : Shown → NextNeed → Shown
runs_on t need = record { proto = t.proto; role = t.role; ending = Some EndsNot; phase = settled need; starting = t.starting; said = t.said }

abbrev by_found : NextNeed → ShownFound → Shown → Shown
by_found (KeyNeed template next) Chooses t = runs_on t (behind_key template next)
by_found (KeyNeed template next) (WantsConsent serial text) t = in_shown t (AtConfirm serial (KeyNeed template next)) t.said
by_found (KeyNeed template next) WantsKey t = in_shown t (AtNeedkey (KeyNeed template next)) (asks_for_key t.said)
by_found (KeyNeed template next) IsDenied t = refused_shown t
by_found (KeyNeed template next) FindsNone t = refused_shown t
by_found (KeyNeed template next) (HasOffers list) t = t
by_found (KeyNeed template next) HasPick t = t
by_found (OffersNeed template) (HasOffers list) t = runs_on t (behind_offers template list)
by_found (OffersNeed template) came t = t
by_found (PickNeed templates) HasPick t = runs_on t NoNeed
by_found (PickNeed templates) came t = t
by_found ServerNeed came t = t
by_found NoNeed came t = t

abbrev by_phase : ShownPhase → (NextNeed → Shown → Shown) → Shown → Shown
by_phase (Seeks need) then t = then need t
by_phase Idle then t = t
by_phase (Waits request) then t = t
by_phase (AtConfirm serial need) then t = t
by_phase (AtNeedkey need) then t = t
by_phase AtServer then t = t

abbrev pub sought_shown : ShownFound → Shown → Shown
sought_shown came t = by_phase t.phase (λ need. by_found need came) t

-- a begun conversation that seeks, and what is found for it
abbrev seeking_at : Begun → Bool → Said → Standing
seeking_at b starting said = standing_at (Some b) Seeking starting said

abbrev seeks_for : Begun → NextNeed → Bool → Said → Shown
seeks_for b need starting said = record { proto = told_in (codes "proto") (Some b); role = told_in (codes "role") (Some b); ending = endings (Some b); phase = Seeks need; starting = starting; said = said }

refusing : (b : Begun) (starting : Bool) (said : Said) (answer : RpcAnswer) (need : NextNeed) → ends b.start (undone ∷ b.moves) ≡ Running → shown (refused (seeking_at b starting said) answer) ≡ refused_shown (seeks_for b need starting said)
refusing b true said answer need runs = refl
refusing b false said answer need runs =
    ap (λ (o : Outcome). record { proto = told_in (codes "proto") (Some b); role = told_in (codes "role") (Some b); ending = Some (ending_of o); phase = Idle; starting = false; said = said }) runs

key_sought : (b : Begun) (starting : Bool) (said : Said) (template : List Attr) (next : Next) → needs b.start b.moves ≡ Key template → next ≡ next_of (needs b.start (found any_key None ∷ b.moves)) → (came : Found)
    → shown (sought_if (is_for (Key template) came) (seeking_at b starting said) came) ≡ by_found (KeyNeed template next) (shown_found came) (seeks_for b (KeyNeed template next) starting said)
key_sought b starting said template next e leads (Chosen key) =
    let move = told_of_key key in
    let behind_it = found_leads b.start b.moves (told_key key) (value_of (codes "!password") key.tuple) template e in
    moved_shown (seeking_at b starting said) (chosen_for key b) (move_answer a.Ok (Some key) (answers b.start b.moves move))
    ∙ ap (λ (o : Outcome). behind (told_in (codes "proto") (Some b)) (told_in (codes "role") (Some b)) (ending_of o) (led_after b.start (move ∷ b.moves)) starting said) behind_it.runs
    ∙ ap (λ (need : NextNeed). behind (told_in (codes "proto") (Some b)) (told_in (codes "role") (Some b)) EndsNot need starting said)
    (behind_it.leads (next_of (needs b.start (found any_key None ∷ move ∷ b.moves))) ∙ ap (behind_key template) (sym leads))
key_sought b starting said template next e leads (AsksConsent key) =
    ap (λ (need : NextNeed). record { proto = told_in (codes "proto") (Some b); role = told_in (codes "role") (Some b); ending = endings (Some b); phase = AtConfirm key.serial need; starting = starting; said = said })
    (ap (λ (need : Need). next_need need (next_of (needs b.start (found any_key None ∷ b.moves)))) e ∙ ap (KeyNeed template) (sym leads))
key_sought b starting said template next e leads AsksKey =
    ap (λ (need : NextNeed). record { proto = told_in (codes "proto") (Some b); role = told_in (codes "role") (Some b); ending = endings (Some b); phase = AtNeedkey need; starting = starting; said = asks_for_key said })
    (ap (λ (need : Need). next_need need (next_of (needs b.start (found any_key None ∷ b.moves)))) e ∙ ap (KeyNeed template) (sym leads))
key_sought b starting said template next e leads Denied = refusing b starting said a.Denied (KeyNeed template next) (undone_runs b.start b.moves (ap is_sought e))
key_sought b starting said template next e leads NoneServes = refusing b starting said (needs_key (seeking_at b starting said)) (KeyNeed template next) (undone_runs b.start b.moves (ap is_sought e))
key_sought b starting said template next e leads (Offered list) = ap (λ (need : NextNeed). seeks_for b need starting said) (ap (λ (need : Need). next_need need (next_of (needs b.start (found any_key None ∷ b.moves)))) e ∙ ap (KeyNeed template) (sym leads))
key_sought b starting said template next e leads (Picked place) = ap (λ (need : NextNeed). seeks_for b need starting said) (ap (λ (need : Need). next_need need (next_of (needs b.start (found any_key None ∷ b.moves)))) e ∙ ap (KeyNeed template) (sym leads))

-- nothing changes that isn't what is needed
unchanged : (b : Begun) (starting : Bool) (said : Said) (need : Need) → needs b.start b.moves ≡ need → shown (seeking_at b starting said) ≡ seeks_for b (next_need need (next_of (needs b.start (found any_key None ∷ b.moves)))) starting said
unchanged b starting said need e = ap (λ (n : Need). seeks_for b (next_need n (next_of (needs b.start (found any_key None ∷ b.moves)))) starting said) e

offers_sought : (b : Begun) (starting : Bool) (said : Said) (template : List Attr) → needs b.start b.moves ≡ Offers template → (came : Found)
    → shown (sought_if (is_for (Offers template) came) (seeking_at b starting said) came) ≡ by_found (OffersNeed template) (shown_found came) (seeks_for b (OffersNeed template) starting said)
offers_sought b starting said template e (Offered list) =
    let behind_it = offered_leads b.start b.moves list template e in
    moved_shown (seeking_at b starting said) (with_move b (offered list)) (move_answer a.Ok b.key (answers b.start b.moves (offered list)))
    ∙ ap (λ (o : Outcome). behind (told_in (codes "proto") (Some b)) (told_in (codes "role") (Some b)) (ending_of o) (led_after b.start (offered list ∷ b.moves)) starting said) behind_it.runs
    ∙ ap (λ (need : NextNeed). behind (told_in (codes "proto") (Some b)) (told_in (codes "role") (Some b)) EndsNot need starting said) behind_it.leads
offers_sought b starting said template e (Chosen key) = unchanged b starting said (Offers template) e
offers_sought b starting said template e (AsksConsent key) = unchanged b starting said (Offers template) e
offers_sought b starting said template e AsksKey = unchanged b starting said (Offers template) e
offers_sought b starting said template e Denied = unchanged b starting said (Offers template) e
offers_sought b starting said template e NoneServes = unchanged b starting said (Offers template) e
offers_sought b starting said template e (Picked place) = unchanged b starting said (Offers template) e

pick_sought : (b : Begun) (starting : Bool) (said : Said) (templates : List (List Attr)) → needs b.start b.moves ≡ Pick templates → (came : Found)
    → shown (sought_if (is_for (Pick templates) came) (seeking_at b starting said) came) ≡ by_found (PickNeed templates) (shown_found came) (seeks_for b (PickNeed templates) starting said)
pick_sought b starting said templates e (Picked place) =
    let behind_it = picked_leads b.start b.moves place templates e in
    moved_shown (seeking_at b starting said) (with_move b (picked place)) (move_answer a.Ok b.key (answers b.start b.moves (picked place)))
    ∙ ap (λ (o : Outcome). behind (told_in (codes "proto") (Some b)) (told_in (codes "role") (Some b)) (ending_of o) (led_after b.start (picked place ∷ b.moves)) starting said) behind_it.runs
    ∙ ap (λ (need : NextNeed). behind (told_in (codes "proto") (Some b)) (told_in (codes "role") (Some b)) EndsNot need starting said) (behind_it.leads (next_of (needs b.start (found any_key None ∷ picked place ∷ b.moves))))
pick_sought b starting said templates e (Offered list) = unchanged b starting said (Pick templates) e
pick_sought b starting said templates e (Chosen key) = unchanged b starting said (Pick templates) e
pick_sought b starting said templates e (AsksConsent key) = unchanged b starting said (Pick templates) e
pick_sought b starting said templates e AsksKey = unchanged b starting said (Pick templates) e
pick_sought b starting said templates e Denied = unchanged b starting said (Pick templates) e
pick_sought b starting said templates e NoneServes = unchanged b starting said (Pick templates) e

abbrev next_in : Begun → Next
next_in b = next_of (needs b.start (found any_key None ∷ b.moves))

need_sought : (b : Begun) (starting : Bool) (said : Said) (came : Found) (need : Need) → needs b.start b.moves ≡ need
    → shown (sought_if (is_for need came) (seeking_at b starting said) came) ≡ by_found (next_need need (next_in b)) (shown_found came) (seeks_for b (next_need need (next_in b)) starting said)
need_sought b starting said came (Key template) e = key_sought b starting said template (next_in b) e refl came
need_sought b starting said came (Offers template) e = offers_sought b starting said template e came
need_sought b starting said came (Pick templates) e = pick_sought b starting said templates e came
need_sought b starting said came (Exchange request shape) e = no_need came
  where
    no_need : (came : Found) → shown (sought_if (is_for (Exchange request shape) came) (seeking_at b starting said) came) ≡ seeks_for b ServerNeed starting said
    no_need (Chosen key) = unchanged b starting said (Exchange request shape) e
    no_need (AsksConsent key) = unchanged b starting said (Exchange request shape) e
    no_need AsksKey = unchanged b starting said (Exchange request shape) e
    no_need Denied = unchanged b starting said (Exchange request shape) e
    no_need NoneServes = unchanged b starting said (Exchange request shape) e
    no_need (Offered list) = unchanged b starting said (Exchange request shape) e
    no_need (Picked place) = unchanged b starting said (Exchange request shape) e
need_sought b starting said came Nothing e = no_need came
  where
    no_need : (came : Found) → shown (sought_if (is_for Nothing came) (seeking_at b starting said) came) ≡ seeks_for b NoNeed starting said
    no_need (Chosen key) = unchanged b starting said Nothing e
    no_need (AsksConsent key) = unchanged b starting said Nothing e
    no_need AsksKey = unchanged b starting said Nothing e
    no_need Denied = unchanged b starting said Nothing e
    no_need NoneServes = unchanged b starting said Nothing e
    no_need (Offered list) = unchanged b starting said Nothing e
    no_need (Picked place) = unchanged b starting said Nothing e

begun_sought : (begun : Option Begun) (starting : Bool) (said : Said) (came : Found) → shown (sought_if (is_for (need_in begun) came) (standing_at begun Seeking starting said) came) ≡ sought_shown (shown_found came) (shown_at begun Seeking starting said)
begun_sought (Some b) starting said came =
    need_sought b starting said came (needs b.start b.moves) refl
begun_sought None starting said (Chosen key) = refl
begun_sought None starting said (AsksConsent key) = refl
begun_sought None starting said AsksKey = refl
begun_sought None starting said Denied = refl
begun_sought None starting said NoneServes = refl
begun_sought None starting said (Offered list) = refl
begun_sought None starting said (Picked place) = refl

sought_at : (begun : Option Begun) (ph : Phase) (starting : Bool) (said : Said) (came : Found) → shown (then_stands (standing_at begun ph starting said) ph (calls.Sought came)) ≡ sought_shown (shown_found came) (shown_at begun ph starting said)
sought_at begun Seeking starting said came = begun_sought begun starting said came
sought_at begun Resting starting said came = refl
sought_at begun (Waiting request) starting said came = refl
sought_at begun (OnConfirm serial) starting said came = refl
sought_at begun OnNeedkey starting said came = refl
sought_at begun OnServer starting said came = refl
sought_at begun (Kept answer) starting said came = refl

pub sought_is_shown : (talk : List calls.Call) (came : Found) → shown (standing (calls.Sought came ∷ talk)) ≡ sought_shown (shown_found came) (shown (standing talk))
sought_is_shown talk came = sought_at (standing talk).begun (standing talk).phase (standing talk).starting (standing talk).said came

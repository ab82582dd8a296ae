-- Which key a conversation keeps, by what met its needs: where offers are never needed, the one that was found last.
use Rattle.std.proofs.Common.{◌≡◌, ℕ, List, [], ◌∷◌, ◌++◌, All, Bool, true, false, Option, Some, None, Ok, Err, if◌then◌else◌, refl, sym, ap, ◌∙◌}
use Rattle.std.proofs.lemmas.List.Elements.{All-cons, All-head, All-nil, All-tail}
use Rattle.std.specs.Prelude.{Result}
use Rattle.sealing.specs.declared.fault.FieldFault.{FieldFault}
use Rattle.sealing.specs.declared.request.TicketReq.{TicketReq}
use Rattle.sealing.specs.Request.{request_of}
use Rattle.roles.specs.declared.answer.Cause.{Cause}
use Rattle.roles.specs.declared.key.SkKey.{SkKey}
use Rattle.roles.specs.declared.need.Need.{Need}
use Rattle.roles.specs.declared.need.Need.TheVariants.{Nothing, Key, Offers, Pick, Exchange}
use Rattle.roles.specs.declared.stage.Stage.{Stage}
use Rattle.roles.specs.declared.stage.Stage.TheVariants as sk_stage
use Rattle.roles.specs.Courses.{answer_need, key_need, need_unless}
use Rattle.roles.specs.Courses as sk
use Rattle.roles.specs.Starts.{Start}
use Rattle.roles.specs.Talks.{Call, give, get, found, heard, unheard, roomless, undone, offered, picked}
use Rattle.conv_challenge.specs.declared.stage.Stage.{Stage as MailStage}
use Rattle.conv_challenge.specs.declared.stage.Stage.TheVariants as mail_stage
use Rattle.conv_challenge.specs.Courses as mail
use Rattle.talks.specs.Protocols.{Mail, P9sk1, protocol_of}
use Rattle.symbolic_runs.specs.Moves.{Role}
use Rattle.symbolic_runs.specs.Spellings.{Atoms}
use Rattle.wire_histories.specs.Histories.{Act}
use Rattle.wire_histories.specs.Conversations.{Speaker, are_wanted, kept_by, kept_now, meets, met_by, speaks}
use Rattle.wire_histories.specs.Legal.{IsTalk, Spoken}
use Rattle.clean_runs.specs.Clean.{ReadsKept}

-- the key that was found last, of all that met needs
abbrev pub last_found : List Call → Option (SkKey × Option (List ℕ))
last_found [] = None
last_found (found key secret ∷ met) = Some (key, secret)
last_found (call ∷ met) = last_found met

-- it is read as its holder's
abbrev pub ReadsMet : Atoms → Role → List ℕ → List Call → Type 0
ReadsMet atoms role holder met = ReadsKept atoms role holder (last_found met)

-- ---- where offers are never needed

one_kept : (call : Call) (b : Bool) (need : Need) (kept : Option (SkKey × Option (List ℕ))) (met : List Call) → are_wanted need ≡ false → kept ≡ last_found met → (if b then kept_now need call kept else kept) ≡ last_found (if b then call ∷ met else met)
one_kept call false need kept met none same = same
one_kept (found key secret) true need kept met none same = ap (λ (w : Bool). if w then None else Some (key, secret)) none
one_kept (give b) true need kept met none same = same
one_kept get true need kept met none same = same
one_kept (heard b) true need kept met none same = same
one_kept unheard true need kept met none same = same
one_kept roomless true need kept met none same = same
one_kept undone true need kept met none same = same
one_kept (offered list) true need kept met none same = same
one_kept (picked place) true need kept met none same = same

last_kept : (s : Speaker) → ((talk : List Call) → are_wanted (s.needs talk) ≡ false) → (talk : List Call) → kept_by s talk ≡ last_found (met_by s talk)
last_kept s none [] = refl
last_kept s none (call ∷ before) = one_kept call (meets (s.needs before) call) (s.needs (call ∷ before)) (kept_by s before) (met_by s before) (none (call ∷ before)) (last_kept s none before)

-- ---- a talk that is known

same_either : (b : Bool) (kept : Option (SkKey × Option (List ℕ))) → (if b then kept else kept) ≡ kept
same_either true kept = refl
same_either false kept = refl

-- any call but one that finds a key leaves what is kept
abbrev OthersOnly : List Call → Type 0
OthersOnly [] = Unit {0}
OthersOnly (found key secret ∷ calls) = ⊥
OthersOnly (call ∷ calls) = OthersOnly calls

pub kept_behind : (s : Speaker) (calls before : List Call) → OthersOnly calls → kept_by s (calls ++ before) ≡ kept_by s before
kept_behind s [] before others = refl
kept_behind s (found key secret ∷ calls) before others = absurd others
kept_behind s (give b ∷ calls) before others = same_either (meets (s.needs (calls ++ before)) (give b)) (kept_by s (calls ++ before)) ∙ kept_behind s calls before others
kept_behind s (get ∷ calls) before others = same_either (meets (s.needs (calls ++ before)) get) (kept_by s (calls ++ before)) ∙ kept_behind s calls before others
kept_behind s (heard b ∷ calls) before others = same_either (meets (s.needs (calls ++ before)) (heard b)) (kept_by s (calls ++ before)) ∙ kept_behind s calls before others
kept_behind s (unheard ∷ calls) before others = same_either (meets (s.needs (calls ++ before)) unheard) (kept_by s (calls ++ before)) ∙ kept_behind s calls before others
kept_behind s (roomless ∷ calls) before others = same_either (meets (s.needs (calls ++ before)) roomless) (kept_by s (calls ++ before)) ∙ kept_behind s calls before others
kept_behind s (undone ∷ calls) before others = same_either (meets (s.needs (calls ++ before)) undone) (kept_by s (calls ++ before)) ∙ kept_behind s calls before others
kept_behind s (offered list ∷ calls) before others = same_either (meets (s.needs (calls ++ before)) (offered list)) (kept_by s (calls ++ before)) ∙ kept_behind s calls before others
kept_behind s (picked place ∷ calls) before others = same_either (meets (s.needs (calls ++ before)) (picked place)) (kept_by s (calls ++ before)) ∙ kept_behind s calls before others

-- one that finds a key that is needed, and behind which no offers are
pub kept_found : (s : Speaker) (key : SkKey) (secret : Option (List ℕ)) (before : List Call) (n m : Need) → s.needs before ≡ n → s.needs (found key secret ∷ before) ≡ m → meets n (found key secret) ≡ true → are_wanted m ≡ false → kept_by s (found key secret ∷ before) ≡ Some (key, secret)
kept_found s key secret before n m needs then_needs met none =
    ap (λ need. if meets need (found key secret) then kept_now (s.needs (found key secret ∷ before)) (found key secret) (kept_by s before) else kept_by s before) needs
    ∙ ap (λ (b : Bool). if b then kept_now (s.needs (found key secret ∷ before)) (found key secret) (kept_by s before) else kept_by s before) met
    ∙ ap (λ (w : Bool). if w then None else Some (key, secret)) (ap are_wanted then_needs ∙ none)

-- ---- p9sk1

key_wants_none : (start : Start) (r : Result TicketReq FieldFault) → are_wanted (key_need start r) ≡ false
key_wants_none start (Ok request) = refl
key_wants_none start (Err fault) = refl

answer_wants_none : (start : Start) (key : SkKey) (r : Result TicketReq FieldFault) → are_wanted (answer_need start key r) ≡ false
answer_wants_none start key (Ok request) = refl
answer_wants_none start key (Err fault) = refl

sk_wants_none : (start : Start) (stage : Stage) (broken : Option Cause) → are_wanted (need_unless broken (sk.need_of start stage)) ≡ false
sk_wants_none start stage (Some cause) = refl
sk_wants_none start sk_stage.ClientFirst None = refl
sk_wants_none start sk_stage.ClientSecond None = refl
sk_wants_none start (sk_stage.ClientKey r) None = key_wants_none start (request_of r)
sk_wants_none start (sk_stage.ClientAsk r key) None = answer_wants_none start key (request_of r)
sk_wants_none start (sk_stage.ClientThird r key a) None = refl
sk_wants_none start (sk_stage.ClientFourth r key a) None = refl
sk_wants_none start (sk_stage.ClientDone r key a p) None = refl
sk_wants_none start sk_stage.ServerKey None = refl
sk_wants_none start (sk_stage.ServerFirst key) None = refl
sk_wants_none start (sk_stage.ServerSecond key theirs) None = refl
sk_wants_none start (sk_stage.ServerThird key theirs) None = refl
sk_wants_none start (sk_stage.ServerFourth key theirs shown) None = refl
sk_wants_none start (sk_stage.ServerDone key theirs shown) None = refl

pub sk_keeps : (start : Start) (talk : List Call) → kept_by (speaks P9sk1 start) talk ≡ last_found (met_by (speaks P9sk1 start) talk)
sk_keeps start talk = last_kept (speaks P9sk1 start) (λ before. sk_wants_none start (sk.course start before).stage (sk.course start before).broken) talk

pub sk_kept : (spoken : Spoken) (acts : List Act) → protocol_of spoken.start.template ≡ P9sk1 → IsTalk spoken acts → spoken.key ≡ last_found spoken.met
sk_kept spoken acts is t =
    sym t.kept
    ∙ ap (λ p. kept_by (speaks p spoken.start) t.talk) is
    ∙ sk_keeps spoken.start t.talk
    ∙ ap last_found (sym (ap (λ p. met_by (speaks p spoken.start) t.talk) is) ∙ t.met)

-- ---- the mail protocols

mail_wants_none : (start : Start) (stage : MailStage) (broken : Option Cause) → are_wanted (need_unless broken (mail.need_of start stage)) ≡ false
mail_wants_none start stage (Some cause) = refl
mail_wants_none start mail_stage.ClientFirst None = refl
mail_wants_none start (mail_stage.ClientKey challenge) None = refl
mail_wants_none start (mail_stage.ClientSecond challenge password) None = refl
mail_wants_none start (mail_stage.ClientDone challenge password) None = refl
mail_wants_none start mail_stage.ServerKey None = refl
mail_wants_none start (mail_stage.ServerAsk key) None = refl
mail_wants_none start (mail_stage.ServerFirst key challenge) None = refl
mail_wants_none start (mail_stage.ServerSecond key challenge) None = refl
mail_wants_none start (mail_stage.ServerThird key challenge user) None = refl
mail_wants_none start (mail_stage.ServerVouch key challenge user digits) None = refl
mail_wants_none start (mail_stage.ServerDone key challenge user digits vouch) None = refl

pub mail_keeps : (start : Start) (talk : List Call) → kept_by (speaks Mail start) talk ≡ last_found (met_by (speaks Mail start) talk)
mail_keeps start talk = last_kept (speaks Mail start) (λ before. mail_wants_none start (mail.course start before).stage (mail.course start before).broken) talk

pub mail_kept : (spoken : Spoken) (acts : List Act) → protocol_of spoken.start.template ≡ Mail → IsTalk spoken acts → spoken.key ≡ last_found spoken.met
mail_kept spoken acts is t =
    sym t.kept
    ∙ ap (λ p. kept_by (speaks p spoken.start) t.talk) is
    ∙ mail_keeps spoken.start t.talk
    ∙ ap last_found (sym (ap (λ p. met_by (speaks p spoken.start) t.talk) is) ∙ t.met)

-- ---- the talk of p9sk1 within one of p9any

pub front_all : {X : Type 0} (P : X → Type 0) (xs more : List X) → All P (xs ++ more) → All P xs
front_all P [] more all = All-nil P
front_all P (x ∷ xs) more all = All-cons P x xs (All-head P x (xs ++ more) all) (front_all P xs more (All-tail P x (xs ++ more) all))

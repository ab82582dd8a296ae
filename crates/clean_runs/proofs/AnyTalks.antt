-- What a call of a conversation of p9any leaves, by how far it has come: once it has chosen, what the call leaves of the talk of
-- p9sk1.
use Rattle.std.proofs.Common.{◌≡◌, ℕ, List, [], ◌∷◌, ◌++◌, append_assoc, Bool, true, false, Option, Some, None, Result, Ok, Err, nat_lt, length, length-append, ◌+◌, ◌==◌, ◌&&◌, if◌then◌else◌, refl, sym, ap, ◌∙◌, arith}
use Rattle.std.proofs.lemmas.Bool.{eqb-true}
use Rattle.sealing.specs.Fields.{before_nul}
use Rattle.sealing.specs.declared.fault.FieldFault.{FieldFault}
use Rattle.sealing.specs.declared.request.TicketReq.{TicketReq}
use Rattle.sealing.proofs.FieldLaws.{before_is}
use Rattle.roles.specs.declared.answer.Cause.{Cause}
use Rattle.roles.specs.declared.answer.Gave.{Gave}
use Rattle.roles.specs.declared.answer.Gave.TheVariants as g
use Rattle.roles.specs.declared.need.Need.{Need}
use Rattle.roles.specs.declared.need.Need.TheVariants.{Nothing, Key, Offers, Pick, Exchange}
use Rattle.roles.specs.declared.need.Outcome.{Outcome}
use Rattle.roles.specs.declared.need.Outcome.TheVariants.{Running, Accepted, Finished, Broken}
use Rattle.roles.specs.declared.stage.Stage.{Stage as SkStage}
use Rattle.roles.specs.declared.stage.Stage.TheVariants as sk_stage
use Rattle.roles.specs.Answers.{is_sought}
use Rattle.roles.specs.Courses.{key_need, answer_need, need_unless, outcome_unless, then_course}
use Rattle.roles.specs.Courses as sk
use Rattle.roles.specs.Starts.{Start}
use Rattle.roles.specs.Talks.{Call, Progress, Verdict, give, get, found, heard, unheard, roomless, undone, offered, picked, stays}
use Rattle.roles.specs.declared.key.SkKey.{SkKey}
use Rattle.sealing.specs.Request.{request_of}
use Rattle.conv_p9any.specs.declared.stage.Stage.{Stage}
use Rattle.conv_p9any.specs.declared.stage.TheConstants.{MOST_TEXT}
use Rattle.conv_p9any.specs.Courses as choice
use Rattle.conv_p9any.specs.Talks.{Standing, within}
use Rattle.conv_p9any.specs.Texts.{ended_text, text_in, text_with_nul}
use Rattle.talks.specs.Protocols.{P9any, P9sk1, p9sk1}
use Rattle.wire_histories.specs.Histories.{Act, took}
use Rattle.wire_histories.specs.Conversations.{acts_by, acts_from, asks_by, end_by, if_found, is_taken, kept_by, kept_now, meets, met_by, speaks, waiting}
use Rattle.clean_runs.proofs.LeftLemmas.{acts_above, at, left_at}

abbrev pub any_need : Start → Progress Standing → Need
any_need start p = need_unless p.broken (choice.need_of p9sk1 start p.stage)

abbrev pub any_end : Start → Progress Standing → Outcome
any_end start p = outcome_unless p.broken (choice.outcome_of p9sk1 start p.stage)

abbrev pub any_left : Start → Progress Standing → Verdict Standing → Act → Call → List Act
any_left start p v act call = left_at (any_need start) (any_end start) p v act call

abbrev pub fallen : Standing → Cause → Progress Standing
fallen stage cause = record { stage = stage; broken = Some cause }

abbrev pub acts : Start → Act → List Call → List Act
acts start first talk = acts_from (speaks P9any start) first talk

abbrev pub met : Start → List Call → List Call
met start talk = met_by (speaks P9any start) talk

abbrev pub keeps : Start → List Call → Option (SkKey × Option (List ℕ))
keeps start talk = kept_by (speaks P9any start) talk

abbrev pub none_kept : Option (SkKey × Option (List ℕ))
none_kept = None

-- what a call leaves of no key, by what is needed before and behind it
abbrev pub kept_then : Need → Need → Call → Option (SkKey × Option (List ℕ))
kept_then before now call = if meets before call then kept_now now call None else None

abbrev pub waits_for : Start → Act → List Call → Act
waits_for start first talk = waiting (speaks P9any start) first talk

any_leaves : (start : Start) (first : Act) (before : List Call) (call : Call) → acts_by (speaks P9any start) first before call ≡ any_left start (choice.course p9sk1 start before) (choice.verdict p9sk1 start (choice.course p9sk1 start before) call) (waits_for start first before) call
any_leaves start first before (give b) = refl
any_leaves start first before get = refl
any_leaves start first before (found key password) = refl
any_leaves start first before (heard b) = refl
any_leaves start first before unheard = refl
any_leaves start first before roomless = refl
any_leaves start first before undone = refl
any_leaves start first before (offered list) = refl
any_leaves start first before (picked place) = refl

left_from : (start : Start) (first : Act) (before : List Call) (call : Call) (p : Progress Standing) (v : Verdict Standing) → choice.course p9sk1 start before ≡ p → choice.verdict p9sk1 start p call ≡ v → acts_by (speaks P9any start) first before call ≡ any_left start p v (waits_for start first before) call
left_from start first before call p v here moves =
    any_leaves start first before call
    ∙ ap (λ p. any_left start p (choice.verdict p9sk1 start p call) (waits_for start first before) call) here
    ∙ ap (λ v. any_left start p v (waits_for start first before) call) moves

goes_from : (start : Start) (before : List Call) (call : Call) (p : Progress Standing) (v : Verdict Standing) → choice.course p9sk1 start before ≡ p → choice.verdict p9sk1 start p call ≡ v → choice.course p9sk1 start (call ∷ before) ≡ then_course p v
goes_from start before call p v here moves = ap (λ p. then_course p (choice.verdict p9sk1 start p call)) here ∙ ap (then_course p) moves

-- ---- while it is choosing

pub record Here (start : Start) (first : Act) (talk : List Call) (p : Progress Standing) (xs : List Act) : Type 0 where
  pub course : choice.course p9sk1 start talk ≡ p
  pub left : acts start first talk ≡ xs
  pub none : keeps start talk ≡ None

pub go_on : (start : Start) (first : Act) (before : List Call) (call : Call) (p : Progress Standing) (xs : List Act) (v : Verdict Standing) (left : List Act) → Here start first before p xs → choice.verdict p9sk1 start p call ≡ v → any_left start p v (waits_for start first before) call ≡ left → kept_then (any_need start p) (any_need start (then_course p v)) call ≡ None → Here start first (call ∷ before) (then_course p v) (left ++ xs)
go_on start first before call p xs v left here moves leaves none = record {
  course = goes_from start before call p v here.course moves;
  left = ap (λ more. more ++ acts start first before) (left_from start first before call p v here.course moves ∙ leaves) ∙ ap (λ more. left ++ more) here.left;
  none = ap (λ (k : Option (SkKey × Option (List ℕ))). if meets (any_need start (choice.course p9sk1 start before)) call then kept_now (any_need start (choice.course p9sk1 start (call ∷ before))) call k else k) here.none
      ∙ ap (λ p. kept_then (any_need start p) (any_need start (choice.course p9sk1 start (call ∷ before))) call) here.course
      ∙ ap (λ q. kept_then (any_need start p) (any_need start q) call) (goes_from start before call p v here.course moves)
      ∙ none;
}

pub stay : (start : Start) (first : Act) (before : List Call) (call : Call) (p : Progress Standing) (xs : List Act) (given : Gave) → Here start first before p xs → choice.verdict p9sk1 start p call ≡ stays given → any_left start p (stays given) (waits_for start first before) call ≡ [] → kept_then (any_need start p) (any_need start p) call ≡ None → Here start first (call ∷ before) p xs
stay start first before call p xs given here moves leaves none = go_on start first before call p xs (stays given) [] here moves leaves none

-- a text that a NUL ends, or none
pub data Text (b : List ℕ) : Type 0 where
  no_text : (given : Gave) → text_in b ≡ Err given → is_taken given ≡ false → Text b
  a_text : (text : List ℕ) → text_in b ≡ Ok text → b ≡ text_with_nul text → Text b

nothing_behind : (text behind : List ℕ) → length (text ++ 0 ∷ behind) ≡ length text + 1 → behind ≡ []
nothing_behind text [] long = refl
nothing_behind text (b ∷ behind) long = absurd (let parts = length-append text (0 ∷ b ∷ behind) in omega (arith, long, parts))

abbrev by_end : List ℕ → Bool → Result (List ℕ) Gave
by_end text fits = if fits then Ok text else Err g.TooLong

abbrev by_size : List ℕ → Bool → Result (List ℕ) Gave
by_size b long = if long then Err g.TooLong else ended_text b (before_nul b)

text_ended : (b text : List ℕ) (fits : Bool) → before_nul b ≡ Some text → (length b == length text + 1) ≡ fits → text_in b ≡ by_end text fits → Text b
text_ended b text false is long so = no_text g.TooLong so refl
text_ended b text true is long so =
    let before = before_is b text is in
    let whole : length (text ++ 0 ∷ before.0) ≡ length text + 1 = ap length (sym before.1) ∙ eqb-true (length b) (length text + 1) long in
    a_text text so (before.1 ∙ ap (λ behind. text ++ 0 ∷ behind) (nothing_behind text before.0 whole))

text_by : (b : List ℕ) (nul : Option (List ℕ)) → before_nul b ≡ nul → text_in b ≡ ended_text b nul → Text b
text_by b None is so = no_text (g.TooSmall (length b + 1)) so refl
text_by b (Some text) is so = text_ended b text (length b == length text + 1) is refl so

text_told : (b : List ℕ) (long : Bool) → nat_lt MOST_TEXT (length b) ≡ long → Text b
unfolding text_in
text_told b true is = no_text g.TooLong (ap (by_size b) is) refl
text_told b false is = text_by b (before_nul b) refl (ap (by_size b) is)

pub text_of : (b : List ℕ) → Text b
text_of b = text_told b (nat_lt MOST_TEXT (length b)) refl

-- what a write leaves that isn't taken
pub untaken : (b : List ℕ) (given : Gave) (more : Bool) → is_taken given ≡ false → (if is_taken given && more then took b ∷ [] else []) ≡ []
untaken b given more none = ap (λ (t : Bool). if t && more then took b ∷ [] else []) none

-- ---- once it has chosen

abbrev pub inner_start : Start → List ℕ → Start
inner_start start text = choice.chosen_start p9sk1 start text

pub record Inner (start : Start) (first : Act) (talk : List Call) (stage : Stage) (text : List ℕ) (entry : Act) (base : List Act) (inner more : List Call) : Type 0 where
  pub course : choice.course p9sk1 start talk ≡ at (within stage text inner)
  pub left : acts start first talk ≡ acts_above (speaks P9sk1 (inner_start start text)) entry inner ++ base
  pub waits : waits_for start first talk ≡ waiting (speaks P9sk1 (inner_start start text)) entry inner
  pub has : met start talk ≡ met_by (speaks P9sk1 (inner_start start text)) inner ++ more
  pub keeps_its : keeps start talk ≡ kept_by (speaks P9sk1 (inner_start start text)) inner

leaves_inner : (start : Start) (stage : Stage) (text : List ℕ) (entry : Act) (inner : List Call) (call : Call) → any_left start (at (within stage text inner)) (choice.passed_on p9sk1 start stage text inner call) (waiting (speaks P9sk1 (inner_start start text)) entry inner) call ≡ acts_by (speaks P9sk1 (inner_start start text)) entry inner call
leaves_inner start stage text entry inner (give b) = refl
leaves_inner start stage text entry inner get = refl
leaves_inner start stage text entry inner (found key password) = refl
leaves_inner start stage text entry inner (heard b) = refl
leaves_inner start stage text entry inner unheard = refl
leaves_inner start stage text entry inner roomless = refl
leaves_inner start stage text entry inner undone = refl
leaves_inner start stage text entry inner (offered list) = refl
leaves_inner start stage text entry inner (picked place) = refl

waits_inner : (start : Start) (first : Act) (before : List Call) (stage : Stage) (text : List ℕ) (entry : Act) (base : List Act) (inner more : List Call) (call : Call) → Inner start first before stage text entry base inner more → waits_for start first (call ∷ before) ≡ waiting (speaks P9sk1 (inner_start start text)) entry (call ∷ inner)
waits_inner start first before stage text entry base inner more (give b) here =
    ap (λ p. if is_sought (any_need start p) then waits_for start first before else took b) here.course
    ∙ ap (λ act. if is_sought (sk.need_after (inner_start start text) inner) then act else took b) here.waits
waits_inner start first before stage text entry base inner more get here = here.waits
waits_inner start first before stage text entry base inner more (found key password) here = here.waits
waits_inner start first before stage text entry base inner more (heard b) here = here.waits
waits_inner start first before stage text entry base inner more unheard here = here.waits
waits_inner start first before stage text entry base inner more roomless here = here.waits
waits_inner start first before stage text entry base inner more undone here = here.waits
waits_inner start first before stage text entry base inner more (offered list) here = here.waits
waits_inner start first before stage text entry base inner more (picked place) here = here.waits

met_inner : (it_meets : Bool) (call : Call) (xs more : List Call) → (if it_meets then call ∷ (xs ++ more) else xs ++ more) ≡ (if it_meets then call ∷ xs else xs) ++ more
met_inner true call xs more = refl
met_inner false call xs more = refl

-- a call of the inner talk
pub inner_goes : (start : Start) (first : Act) (before : List Call) (stage : Stage) (text : List ℕ) (entry : Act) (base : List Act) (inner more : List Call) (call : Call) → Inner start first before stage text entry base inner more → choice.verdict p9sk1 start (at (within stage text inner)) call ≡ choice.passed_on p9sk1 start stage text inner call → Inner start first (call ∷ before) stage text entry base (call ∷ inner) more
inner_goes start first before stage text entry base inner more call here moves =
    let v = choice.passed_on p9sk1 start stage text inner call in
    let s = speaks P9sk1 (inner_start start text) in
    record {
      course = goes_from start before call (at (within stage text inner)) v here.course moves;
      left = ap (λ xs. xs ++ acts start first before) (left_from start first before call (at (within stage text inner)) v here.course moves ∙ ap (λ act. any_left start (at (within stage text inner)) v act call) here.waits ∙ leaves_inner start stage text entry inner call)
          ∙ ap (λ xs. acts_by s entry inner call ++ xs) here.left
          ∙ sym (append_assoc (acts_by s entry inner call) (acts_above s entry inner) base);
      waits = waits_inner start first before stage text entry base inner more call here;
      has = ap (λ p. if meets (any_need start p) call then call ∷ met start before else met start before) here.course
          ∙ ap (λ xs. if meets (sk.need_after (inner_start start text) inner) call then call ∷ xs else xs) here.has
          ∙ met_inner (meets (sk.need_after (inner_start start text) inner) call) call (met_by s inner) more;
      keeps_its = ap (λ p. if meets (any_need start p) call then kept_now (any_need start (choice.course p9sk1 start (call ∷ before))) call (keeps start before) else keeps start before) here.course
          ∙ ap (λ q. if meets (sk.need_after (inner_start start text) inner) call then kept_now (any_need start q) call (keeps start before) else keeps start before) (goes_from start before call (at (within stage text inner)) v here.course moves)
          ∙ ap (λ (k : Option (SkKey × Option (List ℕ))). if meets (sk.need_after (inner_start start text) inner) call then kept_now (sk.need_after (inner_start start text) (call ∷ inner)) call k else k) here.keeps_its;
    }

-- offers and picks are no calls of it, and change nothing
same_end : (o : Outcome) → end_by o o ≡ []
same_end Running = refl
same_end (Accepted info) = refl
same_end Finished = refl
same_end (Broken cause) = refl

same_need : (n : Need) (act : Act) → asks_by n n ++ if_found (is_sought n) (is_sought n) act ≡ []
same_need Nothing act = refl
same_need (Key template) act = refl
same_need (Offers template) act = refl
same_need (Pick templates) act = refl
same_need (Exchange request shape) act = refl

leaves_nothing : (o : Outcome) (n : Need) (act : Act) → end_by o o ++ (asks_by n n ++ if_found (is_sought n) (is_sought n) act) ≡ []
leaves_nothing o n act = ap (λ xs. xs ++ (asks_by n n ++ if_found (is_sought n) (is_sought n) act)) (same_end o) ∙ same_need n act

key_meets_none : (start : Start) (r : Result TicketReq FieldFault) (list : List ℕ) (place : ℕ) → (meets (key_need start r) (offered list) ≡ false) × (meets (key_need start r) (picked place) ≡ false)
key_meets_none start (Ok request) list place = (refl, refl)
key_meets_none start (Err fault) list place = (refl, refl)

answer_meets_none : (start : Start) (key : SkKey) (r : Result TicketReq FieldFault) (list : List ℕ) (place : ℕ) → (meets (answer_need start key r) (offered list) ≡ false) × (meets (answer_need start key r) (picked place) ≡ false)
answer_meets_none start key (Ok request) list place = (refl, refl)
answer_meets_none start key (Err fault) list place = (refl, refl)

stage_meets_none : (start : Start) (stage : SkStage) (broken : Option Cause) (list : List ℕ) (place : ℕ) → (meets (need_unless broken (sk.need_of start stage)) (offered list) ≡ false) × (meets (need_unless broken (sk.need_of start stage)) (picked place) ≡ false)
stage_meets_none start stage (Some cause) list place = (refl, refl)
stage_meets_none start sk_stage.ClientFirst None list place = (refl, refl)
stage_meets_none start sk_stage.ClientSecond None list place = (refl, refl)
stage_meets_none start (sk_stage.ClientKey r) None list place = key_meets_none start (request_of r) list place
stage_meets_none start (sk_stage.ClientAsk r key) None list place = answer_meets_none start key (request_of r) list place
stage_meets_none start (sk_stage.ClientThird r key a) None list place = (refl, refl)
stage_meets_none start (sk_stage.ClientFourth r key a) None list place = (refl, refl)
stage_meets_none start (sk_stage.ClientDone r key a p) None list place = (refl, refl)
stage_meets_none start sk_stage.ServerKey None list place = (refl, refl)
stage_meets_none start (sk_stage.ServerFirst key) None list place = (refl, refl)
stage_meets_none start (sk_stage.ServerSecond key theirs) None list place = (refl, refl)
stage_meets_none start (sk_stage.ServerThird key theirs) None list place = (refl, refl)
stage_meets_none start (sk_stage.ServerFourth key theirs shown) None list place = (refl, refl)
stage_meets_none start (sk_stage.ServerDone key theirs shown) None list place = (refl, refl)

inner_meets_none : (start : Start) (inner : List Call) (list : List ℕ) (place : ℕ) → (meets (sk.need_after start inner) (offered list) ≡ false) × (meets (sk.need_after start inner) (picked place) ≡ false)
inner_meets_none start inner list place = stage_meets_none start (sk.course start inner).stage (sk.course start inner).broken list place

inner_same : (start : Start) (first : Act) (before : List Call) (stage : Stage) (text : List ℕ) (entry : Act) (base : List Act) (inner more : List Call) (call : Call) (given : Gave) → Inner start first before stage text entry base inner more → choice.verdict p9sk1 start (at (within stage text inner)) call ≡ stays given → any_left start (at (within stage text inner)) (stays given) (waits_for start first before) call ≡ [] → waits_for start first (call ∷ before) ≡ waits_for start first before → meets (sk.need_after (inner_start start text) inner) call ≡ false → Inner start first (call ∷ before) stage text entry base inner more
inner_same start first before stage text entry base inner more call given here moves leaves waits none = record {
  course = goes_from start before call (at (within stage text inner)) (stays given) here.course moves;
  left = ap (λ xs. xs ++ acts start first before) (left_from start first before call (at (within stage text inner)) (stays given) here.course moves ∙ leaves) ∙ here.left;
  waits = waits ∙ here.waits;
  has = ap (λ p. if meets (any_need start p) call then call ∷ met start before else met start before) here.course
      ∙ ap (λ (b : Bool). if b then call ∷ met start before else met start before) none
      ∙ here.has;
  keeps_its = ap (λ p. if meets (any_need start p) call then kept_now (any_need start (choice.course p9sk1 start (call ∷ before))) call (keeps start before) else keeps start before) here.course
      ∙ ap (λ (b : Bool). if b then kept_now (any_need start (choice.course p9sk1 start (call ∷ before))) call (keeps start before) else keeps start before) none
      ∙ here.keeps_its;
}

pub inner_offered : (start : Start) (first : Act) (before : List Call) (stage : Stage) (text : List ℕ) (entry : Act) (base : List Act) (inner more : List Call) (list : List ℕ) → Inner start first before stage text entry base inner more → Inner start first (offered list ∷ before) stage text entry base inner more
inner_offered start first before stage text entry base inner more list here =
    let n = sk.need_after (inner_start start text) inner in
    inner_same start first before stage text entry base inner more (offered list) (choice.waits n) here refl (leaves_nothing (sk.outcome_after (inner_start start text) inner) n (waits_for start first before)) refl (inner_meets_none (inner_start start text) inner list 0).0

pub inner_picked : (start : Start) (first : Act) (before : List Call) (stage : Stage) (text : List ℕ) (entry : Act) (base : List Act) (inner more : List Call) (place : ℕ) → Inner start first before stage text entry base inner more → Inner start first (picked place ∷ before) stage text entry base inner more
inner_picked start first before stage text entry base inner more place here =
    let n = sk.need_after (inner_start start text) inner in
    inner_same start first before stage text entry base inner more (picked place) (choice.waits n) here refl (leaves_nothing (sk.outcome_after (inner_start start text) inner) n (waits_for start first before)) refl (inner_meets_none (inner_start start text) inner [] place).1

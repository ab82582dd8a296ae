-- What a mail client's talk may leave: its start, the challenge that it took, its digits, and what it took behind these.
use Rattle.std.proofs.Common.{◌≡◌, ℕ, List, [], ◌∷◌, ◌++◌, Bool, true, false, Option, unwrap_or, nat_lt, length, if◌then◌else◌, refl, sym, ap, subst, ◌∙◌}
use Rattle.roles.specs.declared.answer.Gave.{Gave}
use Rattle.roles.specs.declared.answer.Gave.TheVariants as g
use Rattle.roles.specs.declared.answer.PhaseWord.TheVariants.{AwaitsRead, AwaitsWrite}
use Rattle.roles.specs.declared.key.SkKey.{SkKey}
use Rattle.roles.specs.Starts.{Start}
use Rattle.roles.specs.Answers.{is_sought}
use Rattle.roles.specs.Talks.{Call, Progress, Verdict, give, get, found, heard, unheard, roomless, undone, offered, picked, goes, stays}
use Rattle.conv_challenge.specs.declared.stage.Side.TheVariants.{Client}
use Rattle.conv_challenge.specs.declared.stage.Stage.{Stage}
use Rattle.conv_challenge.specs.declared.stage.Stage.TheVariants.{ClientFirst, ClientKey, ClientSecond, ClientDone}
use Rattle.conv_challenge.specs.declared.stage.TheConstants.{MOST_CHALLENGE}
use Rattle.conv_challenge.specs.Clients.{bounded, digits_by}
use Rattle.conv_challenge.specs.Courses as mail
use Rattle.conv_challenge.specs.Starts.{proto_of, side_of}
use Rattle.talks.specs.Protocols.{Mail}
use Rattle.wire_histories.specs.Histories.{Act, gave, took}
use Rattle.wire_histories.specs.Conversations.{acts_from, meets, met_by, speaks, waiting}
use Rattle.clean_runs.proofs.LeftLemmas.{at, left_at, mail_goes, mail_left}

-- its digits for a challenge
abbrev pub digits : Start → Option (List ℕ) → List ℕ → List ℕ
digits start secret challenge = digits_by (proto_of start.template) challenge (unwrap_or secret [])

-- behind its digits it takes what it is told to be done with
pub data Behind (given : List ℕ) (challenge : List ℕ) (first : Act) : List Act → Type 0 where
  at_once : Behind given challenge first (gave given ∷ took challenge ∷ first ∷ [])
  told : {acts : List Act} (b : List ℕ) → Behind given challenge first acts → Behind given challenge first (took b ∷ acts)

abbrev acts : Start → Act → List Call → List Act
acts start first talk = acts_from (speaks Mail start) first talk

abbrev met : Start → List Call → List Call
met start talk = met_by (speaks Mail start) talk

-- how it stands behind a talk
pub data Stands (start : Start) (first : Act) (talk : List Call) : Type 0 where
  begun : mail.course start talk ≡ at ClientFirst → acts start first talk ≡ first ∷ [] → met start talk ≡ [] → Stands start first talk
  keyless : (challenge : List ℕ) → mail.course start talk ≡ at (ClientKey challenge) → acts start first talk ≡ first ∷ [] → waiting (speaks Mail start) first talk ≡ took challenge → met start talk ≡ [] → Stands start first talk
  ready : (challenge : List ℕ) (key : SkKey) (secret : Option (List ℕ)) → mail.course start talk ≡ at (ClientSecond challenge (unwrap_or secret [])) → acts start first talk ≡ took challenge ∷ first ∷ [] → met start talk ≡ found key secret ∷ [] → Stands start first talk
  done : (challenge : List ℕ) (key : SkKey) (secret : Option (List ℕ)) → mail.course start talk ≡ at (ClientDone challenge (unwrap_or secret [])) → Behind (digits start secret challenge) challenge first (acts start first talk) → met start talk ≡ found key secret ∷ [] → Stands start first talk

-- something is sought
abbrev is_sought_at : Start → Progress Stage → Bool
is_sought_at start p = is_sought (mail.need_at start p)

-- what stands behind one call more
acts_more : (start : Start) (first : Act) (before : List Call) (call : Call) (stage : Stage) (v : Verdict Stage) (left more : List Act) → mail.course start before ≡ at stage → mail.move start stage call ≡ v → left_at (mail.need_at start) mail.outcome_at (at stage) v (waiting (speaks Mail start) first before) call ≡ left → acts start first before ≡ more → acts start first (call ∷ before) ≡ left ++ more
acts_more start first before call stage v left more here moves leaves stood = ap (λ xs. xs ++ acts start first before) (mail_left start first before call stage v here moves ∙ leaves) ∙ ap (λ xs. left ++ xs) stood

met_more : (start : Start) (before : List Call) (call : Call) (stage : Stage) (meets_it : Bool) (more : List Call) → mail.course start before ≡ at stage → meets (mail.need_at start (at stage)) call ≡ meets_it → met start before ≡ more → met start (call ∷ before) ≡ (if meets_it then call ∷ more else more)
met_more start before call stage meets_it more here is stood =
    ap (λ p. if meets (mail.need_at start p) call then call ∷ met start before else met start before) here
    ∙ ap (λ (b : Bool). if b then call ∷ met start before else met start before) is
    ∙ ap (λ xs. if meets_it then call ∷ xs else xs) stood

-- ---- nothing came so far

begun_stays : (start : Start) (first : Act) (before : List Call) (call : Call) (given : Gave) → mail.move start ClientFirst call ≡ stays given → left_at (mail.need_at start) mail.outcome_at (at ClientFirst) (stays given) (waiting (speaks Mail start) first before) call ≡ [] → mail.course start before ≡ at ClientFirst → acts start first before ≡ first ∷ [] → met start before ≡ [] → Stands start first (call ∷ before)
begun_stays start first before call given moves leaves here stood none = begun (mail_goes start before call ClientFirst (stays given) here moves) (acts_more start first before call ClientFirst (stays given) [] (first ∷ []) here moves leaves stood) (met_more start before call ClientFirst false [] here refl none)

-- a challenge comes: too short, too long, or well
pub data Bounded (most : ℕ) (b : List ℕ) (whole : Verdict Stage) : Type 0 where
  few : bounded most b whole ≡ stays (g.TooSmall 1) → Bounded most b whole
  many : bounded most b whole ≡ stays g.TooLong → Bounded most b whole
  well : nat_lt most (length b) ≡ false → bounded most b whole ≡ whole → Bounded most b whole

pub bounded_by : (most : ℕ) (b : List ℕ) (whole : Verdict Stage) (short long : Bool) → nat_lt (length b) 1 ≡ short → nat_lt most (length b) ≡ long → Bounded most b whole
bounded_by most b whole true long is_short is_long = few (ap (λ (short : Bool). if short then stays (g.TooSmall 1) else if nat_lt most (length b) then stays g.TooLong else whole) is_short)
bounded_by most b whole false true is_short is_long = many (ap (λ (short : Bool). if short then stays (g.TooSmall 1) else if nat_lt most (length b) then stays g.TooLong else whole) is_short ∙ ap (λ (long : Bool). if long then stays g.TooLong else whole) is_long)
bounded_by most b whole false false is_short is_long = well is_long (ap (λ (short : Bool). if short then stays (g.TooSmall 1) else if nat_lt most (length b) then stays g.TooLong else whole) is_short ∙ ap (λ (long : Bool). if long then stays g.TooLong else whole) is_long)

begun_given : (start : Start) (first : Act) (before : List Call) (b : List ℕ) → mail.course start before ≡ at ClientFirst → acts start first before ≡ first ∷ [] → met start before ≡ [] → Bounded MOST_CHALLENGE b (goes (ClientKey b) g.Wait []) → Stands start first (give b ∷ before)
begun_given start first before b here stood none (few is) = begun_stays start first before (give b) (g.TooSmall 1) is refl here stood none
begun_given start first before b here stood none (many is) = begun_stays start first before (give b) g.TooLong is refl here stood none
begun_given start first before b here stood none (well short is) = keyless b
    (mail_goes start before (give b) ClientFirst (goes (ClientKey b) g.Wait []) here is)
    (acts_more start first before (give b) ClientFirst (goes (ClientKey b) g.Wait []) [] (first ∷ []) here is refl stood)
    (ap (λ p. if is_sought_at start p then waiting (speaks Mail start) first before else took b) here)
    (met_more start before (give b) ClientFirst false [] here refl none)

begun_then : (start : Start) (first : Act) (before : List Call) → mail.course start before ≡ at ClientFirst → acts start first before ≡ first ∷ [] → met start before ≡ [] → (call : Call) → Stands start first (call ∷ before)
begun_then start first before here stood none (give b) = begun_given start first before b here stood none (bounded_by MOST_CHALLENGE b (goes (ClientKey b) g.Wait []) (nat_lt (length b) 1) (nat_lt MOST_CHALLENGE (length b)) refl refl)
begun_then start first before here stood none get = begun_stays start first before get (g.Phase AwaitsWrite) refl refl here stood none
begun_then start first before here stood none (found key secret) = begun_stays start first before (found key secret) (g.Phase AwaitsWrite) refl refl here stood none
begun_then start first before here stood none (heard b) = begun_stays start first before (heard b) (g.Phase AwaitsWrite) refl refl here stood none
begun_then start first before here stood none unheard = begun_stays start first before unheard (g.Phase AwaitsWrite) refl refl here stood none
begun_then start first before here stood none roomless = begun_stays start first before roomless (g.Phase AwaitsWrite) refl refl here stood none
begun_then start first before here stood none undone = begun_stays start first before undone (g.Phase AwaitsWrite) refl refl here stood none
begun_then start first before here stood none (offered list) = begun_stays start first before (offered list) (g.Phase AwaitsWrite) refl refl here stood none
begun_then start first before here stood none (picked place) = begun_stays start first before (picked place) (g.Phase AwaitsWrite) refl refl here stood none

-- ---- it seeks a key

keyless_stays : (start : Start) (first : Act) (before : List Call) (call : Call) (challenge : List ℕ) → mail.move start (ClientKey challenge) call ≡ stays g.Wait → left_at (mail.need_at start) mail.outcome_at (at (ClientKey challenge)) (stays g.Wait) (took challenge) call ≡ [] → meets (mail.need_at start (at (ClientKey challenge))) call ≡ false → (mail.course start before ≡ at (ClientKey challenge) → waiting (speaks Mail start) first (call ∷ before) ≡ waiting (speaks Mail start) first before) → mail.course start before ≡ at (ClientKey challenge) → acts start first before ≡ first ∷ [] → waiting (speaks Mail start) first before ≡ took challenge → met start before ≡ [] → Stands start first (call ∷ before)
keyless_stays start first before call challenge moves leaves no_key waits here stood waited none = keyless challenge
    (mail_goes start before call (ClientKey challenge) (stays g.Wait) here moves)
    (acts_more start first before call (ClientKey challenge) (stays g.Wait) [] (first ∷ []) here moves (ap (λ act. left_at (mail.need_at start) mail.outcome_at (at (ClientKey challenge)) (stays g.Wait) act call) waited ∙ leaves) stood)
    (waits here ∙ waited)
    (met_more start before call (ClientKey challenge) false [] here no_key none)

keyless_then : (start : Start) (first : Act) (before : List Call) (challenge : List ℕ) → mail.course start before ≡ at (ClientKey challenge) → acts start first before ≡ first ∷ [] → waiting (speaks Mail start) first before ≡ took challenge → met start before ≡ [] → (call : Call) → Stands start first (call ∷ before)
keyless_then start first before challenge here stood waited none (give b) = keyless_stays start first before (give b) challenge refl refl refl (λ h. ap (λ p. if is_sought_at start p then waiting (speaks Mail start) first before else took b) h) here stood waited none
keyless_then start first before challenge here stood waited none get = keyless_stays start first before get challenge refl refl refl (λ h. refl) here stood waited none
keyless_then start first before challenge here stood waited none (found key secret) = ready challenge key secret
    (mail_goes start before (found key secret) (ClientKey challenge) (goes (ClientSecond challenge (unwrap_or secret [])) g.Ok []) here refl)
    (acts_more start first before (found key secret) (ClientKey challenge) (goes (ClientSecond challenge (unwrap_or secret [])) g.Ok []) (took challenge ∷ []) (first ∷ []) here refl (ap (λ act. act ∷ []) waited) stood)
    (met_more start before (found key secret) (ClientKey challenge) true [] here refl none)
keyless_then start first before challenge here stood waited none (heard b) = keyless_stays start first before (heard b) challenge refl refl refl (λ h. refl) here stood waited none
keyless_then start first before challenge here stood waited none unheard = keyless_stays start first before unheard challenge refl refl refl (λ h. refl) here stood waited none
keyless_then start first before challenge here stood waited none roomless = keyless_stays start first before roomless challenge refl refl refl (λ h. refl) here stood waited none
keyless_then start first before challenge here stood waited none undone = begun
    (mail_goes start before undone (ClientKey challenge) (goes ClientFirst g.Ok []) here refl)
    (acts_more start first before undone (ClientKey challenge) (goes ClientFirst g.Ok []) [] (first ∷ []) here refl refl stood)
    (met_more start before undone (ClientKey challenge) false [] here refl none)
keyless_then start first before challenge here stood waited none (offered list) = keyless_stays start first before (offered list) challenge refl refl refl (λ h. refl) here stood waited none
keyless_then start first before challenge here stood waited none (picked place) = keyless_stays start first before (picked place) challenge refl refl refl (λ h. refl) here stood waited none

-- ---- it has its key

ready_stays : (start : Start) (first : Act) (before : List Call) (call : Call) (challenge : List ℕ) (key : SkKey) (secret : Option (List ℕ)) → mail.move start (ClientSecond challenge (unwrap_or secret [])) call ≡ stays (g.Phase AwaitsRead) → left_at (mail.need_at start) mail.outcome_at (at (ClientSecond challenge (unwrap_or secret []))) (stays (g.Phase AwaitsRead)) (waiting (speaks Mail start) first before) call ≡ [] → mail.course start before ≡ at (ClientSecond challenge (unwrap_or secret [])) → acts start first before ≡ took challenge ∷ first ∷ [] → met start before ≡ found key secret ∷ [] → Stands start first (call ∷ before)
ready_stays start first before call challenge key secret moves leaves here stood has = ready challenge key secret
    (mail_goes start before call (ClientSecond challenge (unwrap_or secret [])) (stays (g.Phase AwaitsRead)) here moves)
    (acts_more start first before call (ClientSecond challenge (unwrap_or secret [])) (stays (g.Phase AwaitsRead)) [] (took challenge ∷ first ∷ []) here moves leaves stood)
    (met_more start before call (ClientSecond challenge (unwrap_or secret [])) false (found key secret ∷ []) here refl has)

ready_then : (start : Start) (first : Act) (before : List Call) (challenge : List ℕ) (key : SkKey) (secret : Option (List ℕ)) → mail.course start before ≡ at (ClientSecond challenge (unwrap_or secret [])) → acts start first before ≡ took challenge ∷ first ∷ [] → met start before ≡ found key secret ∷ [] → (call : Call) → Stands start first (call ∷ before)
ready_then start first before challenge key secret here stood has (give b) = ready_stays start first before (give b) challenge key secret refl refl here stood has
ready_then start first before challenge key secret here stood has get = done challenge key secret
    (mail_goes start before get (ClientSecond challenge (unwrap_or secret [])) (goes (ClientDone challenge (unwrap_or secret [])) g.Ok (digits start secret challenge)) here refl)
    (subst (Behind (digits start secret challenge) challenge first) (sym (acts_more start first before get (ClientSecond challenge (unwrap_or secret [])) (goes (ClientDone challenge (unwrap_or secret [])) g.Ok (digits start secret challenge)) (gave (digits start secret challenge) ∷ []) (took challenge ∷ first ∷ []) here refl refl stood)) at_once)
    (met_more start before get (ClientSecond challenge (unwrap_or secret [])) false (found key secret ∷ []) here refl has)
ready_then start first before challenge key secret here stood has (found other more) = ready_stays start first before (found other more) challenge key secret refl refl here stood has
ready_then start first before challenge key secret here stood has (heard b) = ready_stays start first before (heard b) challenge key secret refl refl here stood has
ready_then start first before challenge key secret here stood has unheard = ready_stays start first before unheard challenge key secret refl refl here stood has
ready_then start first before challenge key secret here stood has roomless = ready_stays start first before roomless challenge key secret refl refl here stood has
ready_then start first before challenge key secret here stood has undone = ready_stays start first before undone challenge key secret refl refl here stood has
ready_then start first before challenge key secret here stood has (offered list) = ready_stays start first before (offered list) challenge key secret refl refl here stood has
ready_then start first before challenge key secret here stood has (picked place) = ready_stays start first before (picked place) challenge key secret refl refl here stood has

-- ---- its digits were given

done_with : (start : Start) (first : Act) (before : List Call) (call : Call) (challenge : List ℕ) (key : SkKey) (secret : Option (List ℕ)) (left : List Act) → mail.move start (ClientDone challenge (unwrap_or secret [])) call ≡ stays (g.Done false) → left_at (mail.need_at start) mail.outcome_at (at (ClientDone challenge (unwrap_or secret []))) (stays (g.Done false)) (waiting (speaks Mail start) first before) call ≡ left → mail.course start before ≡ at (ClientDone challenge (unwrap_or secret [])) → Behind (digits start secret challenge) challenge first (left ++ acts start first before) → met start before ≡ found key secret ∷ [] → Stands start first (call ∷ before)
done_with start first before call challenge key secret left moves leaves here stood has = done challenge key secret
    (mail_goes start before call (ClientDone challenge (unwrap_or secret [])) (stays (g.Done false)) here moves)
    (subst (Behind (digits start secret challenge) challenge first) (sym (acts_more start first before call (ClientDone challenge (unwrap_or secret [])) (stays (g.Done false)) left (acts start first before) here moves leaves refl)) stood)
    (met_more start before call (ClientDone challenge (unwrap_or secret [])) false (found key secret ∷ []) here refl has)

done_then : (start : Start) (first : Act) (before : List Call) (challenge : List ℕ) (key : SkKey) (secret : Option (List ℕ)) → mail.course start before ≡ at (ClientDone challenge (unwrap_or secret [])) → Behind (digits start secret challenge) challenge first (acts start first before) → met start before ≡ found key secret ∷ [] → (call : Call) → Stands start first (call ∷ before)
done_then start first before challenge key secret here stood has (give b) = done_with start first before (give b) challenge key secret (took b ∷ []) refl refl here (told b stood) has
done_then start first before challenge key secret here stood has get = done_with start first before get challenge key secret [] refl refl here stood has
done_then start first before challenge key secret here stood has (found other more) = done_with start first before (found other more) challenge key secret [] refl refl here stood has
done_then start first before challenge key secret here stood has (heard b) = done_with start first before (heard b) challenge key secret [] refl refl here stood has
done_then start first before challenge key secret here stood has unheard = done_with start first before unheard challenge key secret [] refl refl here stood has
done_then start first before challenge key secret here stood has roomless = done_with start first before roomless challenge key secret [] refl refl here stood has
done_then start first before challenge key secret here stood has undone = done_with start first before undone challenge key secret [] refl refl here stood has
done_then start first before challenge key secret here stood has (offered list) = done_with start first before (offered list) challenge key secret [] refl refl here stood has
done_then start first before challenge key secret here stood has (picked place) = done_with start first before (picked place) challenge key secret [] refl refl here stood has

-- ---- every talk

then_stands : (start : Start) (first : Act) (before : List Call) (call : Call) → Stands start first before → Stands start first (call ∷ before)
then_stands start first before call (begun here stood none) = begun_then start first before here stood none call
then_stands start first before call (keyless challenge here stood waited none) = keyless_then start first before challenge here stood waited none call
then_stands start first before call (ready challenge key secret here stood has) = ready_then start first before challenge key secret here stood has call
then_stands start first before call (done challenge key secret here stood has) = done_then start first before challenge key secret here stood has call

pub stands : (start : Start) (first : Act) → side_of start.template ≡ Client → (talk : List Call) → Stands start first talk
stands start first side [] = begun (ap (λ side. at (mail.first_stage side)) side) (ap (λ side. if is_sought_at start (at (mail.first_stage side)) then [] else first ∷ []) side) refl
stands start first side (call ∷ before) = then_stands start first before call (stands start first side before)

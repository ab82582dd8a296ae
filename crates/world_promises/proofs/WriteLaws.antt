-- What a write leaves is what is recorded of it.
use Rattle.std.proofs.Common.{◌≡◌, ℕ, List, [], ◌∷◌, ◌++◌, Bool, true, false, not, ◌&&◌, Option, Some, None, inl, inr, if◌then◌else◌, refl, sym, ap, subst, ◌∙◌}
use Rattle.std.proofs.Math.Bool.{and-true}
use Rattle.std.proofs.lemmas.Bool.{cases_Bool}
use Rattle.key_lists.specs.Lists.{KeyEntry}
use Rattle.roles.specs.declared.answer.Gave.{Gave}
use Rattle.roles.specs.declared.answer.Gave.TheVariants as g
use Rattle.roles.specs.declared.need.Need.{Need}
use Rattle.roles.specs.declared.need.Need.TheVariants.{Nothing, Key, Offers, Pick, Exchange}
use Rattle.roles.specs.declared.need.Outcome.{Outcome}
use Rattle.roles.specs.declared.need.Outcome.TheVariants.{Running, Accepted, Finished, Broken}
use Rattle.roles.specs.Answers.{is_sought}
use Rattle.roles.specs.Talks.{Call as Move, give, offered, picked, undone}
use Rattle.conv_p9any.specs.Talks.{needs_any}
use Rattle.talks.specs.RpcAnswers.{answer_text}
use Rattle.talks.specs.Requests as rpc
use Rattle.talks.specs.declared.answer.RpcAnswer.{RpcAnswer}
use Rattle.talks.specs.declared.answer.RpcAnswer.TheVariants as a
use Rattle.talks.specs.Protocols.{answers, ends, is_over, needs}
use Rattle.talks.specs.declared.said.Said.{Said}
use Rattle.talks.specs.Answers.{move_answer}
use Rattle.talks.specs.Calls.{Chosen, AsksConsent, AsksKey, Denied, NoneServes, Offered, Picked}
use Rattle.talks.specs.Standings.{Begun, Phase, Kept, Seeking, Standing, carried_out, is_for, kept_key, need_in, phase_after, sought, template_of, told_of_key}
use Rattle.wire_histories.specs.Histories.{Act, took}
use Rattle.wire_histories.specs.Conversations.{acts_from, asked_now, done_by, end_by, ended_as, if_found, is_taken, meets, seeks, speaker, started_by, waiting}
use Rattle.world_history.specs.Talking.{leaves_untaken}
use Rattle.world_promises.specs.Roles.{IsRole}
use Rattle.world_promises.proofs.AllRoles.{all_roles}
use Rattle.world_promises.specs.Telling.{Searches, rests, finds, acts_in, answer_acts, idle, is_taken_in, question_acts, request_acts, told_acts}
use Rattle.world_promises.proofs.TellLemmas.{denied_taken, denied_told, move_taken, move_told, need_taken, need_told, not_started_taken, not_started_told}
use Rattle.world_promises.proofs.RoleForms.{same_end}
use Rattle.world_promises.proofs.SearchSteps.{chosen_meets, met_step, offers_meet, pick_meets, rest_only, rest_told, sought_unasked}
use Rattle.world_promises.proofs.RequestLaws.{Left, Told}

abbrev own : Bool → List ℕ → List Act
own taken m = if taken then took m ∷ [] else []

-- ---- where nothing is searched for

seeks_not : (n : Need) (answer : RpcAnswer) → is_sought n ≡ false → phase_after n answer ≡ Seeking → ⊥
seeks_not Nothing answer rest is = cc is
seeks_not (Key template) answer rest is = cc rest
seeks_not (Offers template) answer rest is = cc rest
seeks_not (Pick templates) answer rest is = cc rest
seeks_not (Exchange request shape) answer rest is = cc is

seeks_so : (n : Need) (answer : RpcAnswer) → is_sought n ≡ true → phase_after n answer ≡ Seeking
seeks_so Nothing answer is = cc is
seeks_so (Key template) answer is = refl
seeks_so (Offers template) answer is = refl
seeks_so (Pick templates) answer is = refl
seeks_so (Exchange request shape) answer is = cc is

wrote_at : (n' : Need) (e e' : Outcome) (answer : Gave) (key : Option KeyEntry) (m : List ℕ) (base : List Act) → is_sought n' ≡ false → (answer ≡ g.NoMemory → ⊥) → (needs_any n' ≡ true → is_taken answer ≡ true) → (end_by e e' ++ (asked_now n' ++ own (is_taken answer && not (is_sought n')) m)) ++ base ≡ Told n' (move_answer a.Ok key answer) e e' (own (is_taken_in (phase_after n' (move_answer a.Ok key answer))) m) base
wrote_at Nothing e e' answer key m base rest room taken =
    ap (λ b. (end_by e e' ++ own b m) ++ base) (and-true (is_taken answer) ∙ sym (move_taken key answer room))
    ∙ sym (ap (λ t. (t ++ (end_by e e' ++ own (not (leaves_untaken (answer_text (move_answer a.Ok key answer)))) m)) ++ base) (move_told key answer))
wrote_at (Key template) e e' answer key m base rest room taken = cc rest
wrote_at (Offers template) e e' answer key m base rest room taken = cc rest
wrote_at (Pick templates) e e' answer key m base rest room taken = cc rest
wrote_at (Exchange request shape) e e' answer key m base rest room taken =
    ap (λ b. (end_by e e' ++ (asked_now (Exchange request shape) ++ own b m)) ++ base) (and-true (is_taken answer) ∙ taken refl)

-- ---- where something is

none_asked : (n : Need) → is_sought n ≡ true → asked_now n ≡ []
none_asked Nothing is = refl
none_asked (Key template) is = refl
none_asked (Offers template) is = refl
none_asked (Pick templates) is = refl
none_asked (Exchange request shape) is = cc is

never : (b : Bool) → (b && false) ≡ false
never true = refl
never false = refl

ran_before : (e e' : Outcome) → (is_over e ≡ true → e' ≡ e) → e' ≡ Running → e ≡ Running
ran_before Running e' stays runs = refl
ran_before (Accepted info) e' stays runs = cc (sym (stays refl) ∙ runs)
ran_before Finished e' stays runs = cc (sym (stays refl) ∙ runs)
ran_before (Broken cause) e' stays runs = cc (sym (stays refl) ∙ runs)

nothing_left : (n n' : Need) (e e' : Outcome) (taken : Bool) (m : List ℕ) (base : List Act) → n ≡ Nothing → is_sought n' ≡ true → e ≡ Running → e' ≡ Running → Left n n' e e' (own (not (needs_any n) && (taken && not (is_sought n'))) m) base ≡ base
nothing_left n n' e e' taken m base none sought runs runs' =
    ap (λ x. Left x n' e e' (own (not (needs_any x) && (taken && not (is_sought n'))) m) base) none
    ∙ ap (λ o. (end_by o e' ++ (asked_now n' ++ own (taken && not (is_sought n')) m)) ++ base) runs
    ∙ ap (λ o. (ended_as o ++ (asked_now n' ++ own (taken && not (is_sought n')) m)) ++ base) runs'
    ∙ ap (λ q. (q ++ own (taken && not (is_sought n')) m) ++ base) (none_asked n' sought)
    ∙ ap (λ b. own (taken && not b) m ++ base) sought
    ∙ ap (λ b. own b m ++ base) (never taken)

-- what is so of a write by which something is searched for
record Wrote (b : Begun) (m : List ℕ) : Type 0 where
  r : IsRole (speaker b.start)
  none : needs b.start b.moves ≡ Nothing
  sought : is_sought (needs b.start (give m ∷ b.moves)) ≡ true
  runs : ends b.start b.moves ≡ Running
  left : acts_from (speaker b.start) (started_by b.start) (give m ∷ b.moves) ≡ acts_in (Some b)
  waits : waiting (speaker b.start) (started_by b.start) (give m ∷ b.moves) ≡ took m

wrote : (b : Begun) (m : List ℕ) → IsRole (speaker b.start) → needs b.start b.moves ≡ Nothing → is_sought (needs b.start (give m ∷ b.moves)) ≡ true → Wrote b m
wrote b m r none sought =
    let runs' = r.goes_on (give m ∷ b.moves) sought in
    let runs = ran_before (ends b.start b.moves) (ends b.start (give m ∷ b.moves)) (r.stays b.moves (give m)) runs' in
    record {
      r = r;
      none = none;
      sought = sought;
      runs = runs;
      left = nothing_left (needs b.start b.moves) (needs b.start (give m ∷ b.moves)) (ends b.start b.moves) (ends b.start (give m ∷ b.moves)) (is_taken (answers b.start b.moves (give m))) m (acts_in (Some b)) none sought runs runs';
      waits = ap (λ n. if is_sought n then waiting (speaker b.start) (started_by b.start) b.moves else took m) none;
    }

-- what a write leaves
abbrev IsWritten : Begun → Phase → Said → List ℕ → List ℕ → Standing → Type 0
IsWritten b phase said word m now = acts_in now.begun ≡ request_acts word (rpc.writes m) (idle (Some b) phase said) now ++ acts_in (Some b)

taken_phase : (n : Need) (key : Option KeyEntry) (answer : Gave) → is_taken answer ≡ true → (answer ≡ g.NoMemory → ⊥) → is_taken_in (phase_after n (move_answer a.Ok key answer)) ≡ true
taken_phase Nothing key answer taken room = move_taken key answer room ∙ taken
taken_phase (Key template) key answer taken room = refl
taken_phase (Offers template) key answer taken room = refl
taken_phase (Pick templates) key answer taken room = refl
taken_phase (Exchange request shape) key answer taken room = refl

-- what is needed is found
abbrev behind_found : Begun → List ℕ → Move → Option KeyEntry → Option KeyEntry → Said → Standing
behind_found b m call key told said = record { begun = Some (record { start = b.start; moves = call ∷ give m ∷ b.moves; key = key }); phase = phase_after (needs b.start (call ∷ give m ∷ b.moves)) (move_answer a.Ok told (answers b.start (give m ∷ b.moves) call)); starting = false; said = said }

met_write : (b : Begun) (m : List ℕ) → Wrote b m → (phase : Phase) (said : Said) (word : List ℕ) (call : Move) (key told : Option KeyEntry) (now : Standing) → done_by (speaker b.start) (started_by b.start) (give m ∷ b.moves) call ≡ if_found (seeks (speaker b.start) (give m ∷ b.moves)) (seeks (speaker b.start) (call ∷ give m ∷ b.moves)) (waiting (speaker b.start) (started_by b.start) (give m ∷ b.moves)) → meets (needs b.start (give m ∷ b.moves)) call ≡ true → Searches (behind_found b m call key told said) now → IsWritten b phase said word m now
met_write b m w phase said word call key told now does is later =
    let talk = give m ∷ b.moves in
    let n = needs b.start (call ∷ talk) in
    let e = ends b.start (call ∷ talk) in
    let gave_so = answers b.start talk call in
    let answer = move_answer a.Ok told gave_so in
    let rest = w.r.one b.moves m call w.none is in
    let mine = own (is_taken_in (phase_after n answer)) m in
    let taken : mine ≡ took m ∷ [] = ap (λ t. own t m) (taken_phase n told gave_so (w.r.met talk call is) (w.r.has_room talk call)) in
    let same : now ≡ behind_found b m call key told said = rest_only (behind_found b m call key told said) now later (seeks_not n answer rest) in
    subst (IsWritten b phase said word m) (sym same) (
    met_step (speaker b.start) w.r (started_by b.start) talk call (took m) (acts_in (Some b)) does is w.waits w.left
    ∙ ap (λ xs. xs ++ acts_in (Some b)) (rest_told n answer e (took m) mine rest (move_told told gave_so) taken)
    ∙ sym (ap (λ o. (answer_acts (phase_after n answer) ++ (end_by o e ++ (question_acts (phase_after n answer) n ++ mine))) ++ acts_in (Some b)) w.runs))

-- it isn't, and the write is undone
abbrev behind_undone : Begun → List ℕ → RpcAnswer → Said → Standing
behind_undone b m answer said = record { begun = Some (record { start = b.start; moves = undone ∷ give m ∷ b.moves; key = b.key }); phase = Kept answer; starting = false; said = said }

undone_left : (n n' : Need) (e e' : Outcome) (rest base : List Act) → is_sought n ≡ true → n' ≡ Nothing → e ≡ Running → e' ≡ Running → rest ≡ base → Left n n' e e' [] rest ≡ base
undone_left n n' e e' rest base sought none runs runs' same =
    ap (λ b. (end_by e e' ++ ((if b then [] else asked_now n') ++ [])) ++ rest) (sought_unasked n sought)
    ∙ ap (λ x. (end_by e e' ++ (asked_now x ++ [])) ++ rest) none
    ∙ ap (λ o. (end_by o e' ++ []) ++ rest) runs
    ∙ ap (λ o. (ended_as o ++ []) ++ rest) runs'
    ∙ same

refused_write : (b : Begun) (m : List ℕ) → Wrote b m → (phase : Phase) (said : Said) (word : List ℕ) (answer : RpcAnswer) (now : Standing) → told_acts (answer_text answer) ≡ [] → not (leaves_untaken (answer_text answer)) ≡ false → Searches (behind_undone b m answer said) now → IsWritten b phase said word m now
refused_write b m w phase said word answer now told untaken later =
    let talk = give m ∷ b.moves in
    let e = ends b.start b.moves in
    let e' = ends b.start (undone ∷ talk) in
    let kept = w.r.unended b.moves m w.none w.sought in
    let base = acts_in (Some b) in
    subst (IsWritten b phase said word m) (sym (rest_only (behind_undone b m answer said) now later (λ is. cc is))) (
    undone_left (needs b.start talk) (needs b.start (undone ∷ talk)) (ends b.start talk) e' (acts_from (speaker b.start) (started_by b.start) talk) base w.sought (w.r.undoes b.moves m w.none w.sought) (w.r.goes_on talk w.sought) (kept ∙ w.runs) w.left
    ∙ sym (ap (λ t. (t ++ (end_by e e' ++ own (not (leaves_untaken (answer_text answer))) m)) ++ base) told
    ∙ ap (λ t. (end_by e e' ++ own t m) ++ base) untaken
    ∙ ap (λ o. (end_by e o ++ []) ++ base) kept
    ∙ ap (λ x. (x ++ []) ++ base) (same_end e)))

-- ---- by what is found

found_left : (b : Begun) (m : List ℕ) → Wrote b m → (phase : Phase) (said : Said) (word : List ℕ) (s now : Standing) → Searches s now → s ≡ carried_out (idle (Some b) phase said) word (rpc.writes m) → IsWritten b phase said word m now
found_left b m w phase said word s now (rests resting) is =
    absurd (resting (ap (λ x. x.phase) is ∙ seeks_so (needs b.start (give m ∷ b.moves)) (move_answer a.Ok b.key (answers b.start b.moves (give m))) w.sought))
found_left b m w phase said word s now (finds (Chosen key) seeking is_so nobody later) is =
    let need_so : is_for (needs b.start (give m ∷ b.moves)) (Chosen key) ≡ true = subst (λ x. is_for (need_in x.begun) (Chosen key) ≡ true) is is_so in
    let call = told_of_key key in
    met_write b m w phase said word call (kept_key key (needs b.start (call ∷ give m ∷ b.moves))) (Some key) now refl (chosen_meets (needs b.start (give m ∷ b.moves)) key call need_so (λ template. refl)) (subst (λ x. Searches (sought x (Chosen key)) now) is later)
found_left b m w phase said word s now (finds (Offered list) seeking is_so nobody later) is =
    let need_so : is_for (needs b.start (give m ∷ b.moves)) (Offered list) ≡ true = subst (λ x. is_for (need_in x.begun) (Offered list) ≡ true) is is_so in
    met_write b m w phase said word (offered list) b.key b.key now refl (offers_meet (needs b.start (give m ∷ b.moves)) list need_so) (subst (λ x. Searches (sought x (Offered list)) now) is later)
found_left b m w phase said word s now (finds (Picked place) seeking is_so nobody later) is =
    let need_so : is_for (needs b.start (give m ∷ b.moves)) (Picked place) ≡ true = subst (λ x. is_for (need_in x.begun) (Picked place) ≡ true) is is_so in
    met_write b m w phase said word (picked place) b.key b.key now refl (pick_meets (needs b.start (give m ∷ b.moves)) place need_so) (subst (λ x. Searches (sought x (Picked place)) now) is later)
found_left b m w phase said word s now (finds Denied seeking is_so nobody later) is =
    refused_write b m w phase said word a.Denied now denied_told denied_taken (subst (λ x. Searches (sought x Denied) now) is later)
found_left b m w phase said word s now (finds NoneServes seeking is_so nobody later) is =
    let template = template_of (carried_out (idle (Some b) phase said) word (rpc.writes m)).begun in
    refused_write b m w phase said word (a.NeedKey template) now (need_told template) (need_taken template) (subst (λ x. Searches (sought x NoneServes) now) is later)
found_left b m w phase said word s now (finds (AsksConsent key) seeking is_so nobody later) is = cc nobody
found_left b m w phase said word s now (finds AsksKey seeking is_so nobody later) is = cc nobody

pub write_left : (begun : Option Begun) (phase : Phase) (said : Said) (word m : List ℕ) (now : Standing) → need_in begun ≡ Nothing → Searches (carried_out (idle begun phase said) word (rpc.writes m)) now → acts_in now.begun ≡ request_acts word (rpc.writes m) (idle begun phase said) now ++ acts_in begun
write_left None phase said word m now none later =
    subst (λ x. acts_in x.begun ≡ request_acts word (rpc.writes m) (idle None phase said) x ++ []) (sym (rest_only (idle None (Kept a.NotStarted) said) now later (λ is. cc is)))
    (sym (ap (λ t. (t ++ own (not (leaves_untaken (answer_text a.NotStarted))) m) ++ []) not_started_told ∙ ap (λ t. own t m ++ []) not_started_taken))
write_left (Some b) phase said word m now none later = let r = all_roles b.start in elim (cases_Bool (is_sought (needs b.start (give m ∷ b.moves)))) [
  | inl sought_so ↦ found_left b m (wrote b m r none sought_so) phase said word (carried_out (idle (Some b) phase said) word (rpc.writes m)) now later refl
  | inr rest ↦ (
      let n' = needs b.start (give m ∷ b.moves) in
      let gave_so = answers b.start b.moves (give m) in
      let behind_write = carried_out (idle (Some b) phase said) word (rpc.writes m) in
      let e = ends b.start b.moves in
      let e' = ends b.start (give m ∷ b.moves) in
      let base = acts_in (Some b) in
      subst (IsWritten b phase said word m) (sym (rest_only behind_write now later (seeks_not n' (move_answer a.Ok b.key gave_so) rest))) (
      ap (λ x. Left x n' e e' (own (not (needs_any x) && (is_taken gave_so && not (is_sought n'))) m) base) none
      ∙ wrote_at n' e e' gave_so b.key m base rest (r.has_room b.moves (give m)) (r.taken b.moves m none)))
]

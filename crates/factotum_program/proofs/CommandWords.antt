-- Words, and what they ask for.
use Rattle.std.proofs.Common.{◌≡◌, ◌||◌, ℕ, List, Bool, true, false, Option, Some, None, refl, sym, subst, inl, inr, ◌∙◌}
use Rattle.attr_tuples.specs.Forms.{is_dom}
use Rattle.auth_program.specs.declared.status.Status.{Status}
use Rattle.auth_program.specs.declared.status.Status.TheVariants.{Fine, Usage, ReadFault, WriteFault, WordFault, BadFrame, Torn, BadScript, BadTables, AsEnded, NoMemory, Flood}
use Rattle.auth_program.specs.declared.words.AuthsrvWords.{AuthsrvWords}
use Rattle.auth_program.specs.Words.{HasValues, has_authsrv_form, is_authsrv}
use Rattle.world_program.specs.declared.words.GenWords.{GenWords}
use Rattle.world_program.specs.Playing.{WorldSo}
use Rattle.world_program.specs.Summing.{GenSo}
use Rattle.world_program.specs.Words.{gen_given, is_world}
use Rattle.factotum_program.specs.Words.{IsUnread, is_command, is_pipe}
use Rattle.factotum_program.specs.Commands.{EndsSo as Piped}
use Rattle.auth_program.specs.Serving.{Outside, ServesSo}
use Rattle.factotum_program.specs.Sights.{Sight}
use Rattle.auth_program.specs.Statuses.{is_printable}
use Rattle.auth_program.proofs.ServeLemmas.{served_printable}
use Rattle.auth_program.proofs.WordLemmas.{and_right}
use Rattle.world_program.proofs.EndLemmas.{played_printable, summed_printable}

pub dom_given : (words : List (List ℕ)) (given : AuthsrvWords) → is_authsrv words ≡ true → HasValues words given → is_dom given.dom ≡ true
dom_given words given is has = subst (λ (d : List ℕ). is_dom d ≡ true) (sym has.dom) (and_right (has_authsrv_form words) _ is)

pub usage_alone : (words : List (List ℕ)) (status : Status) → IsUnread words status → status ≡ Usage → is_command words ≡ false
usage_alone words status (inl u) e = u.1
usage_alone words status (inr n) e = absurd (let f : NoMemory ≡ Usage = sym n.0 ∙ e in cc)

-- ---- words of a command

with_left : (a b : Bool) → a ≡ true → (a || b) ≡ true
with_left true b e = refl
with_left false b e = absurd (let f : false ≡ true = e in cc)

pub pipe_is_command : (words : List (List ℕ)) → is_pipe words ≡ true → is_command words ≡ true
pipe_is_command words e = with_left (is_pipe words) _ e

not_both : (b : Bool) {X : Type 0} → b ≡ true → b ≡ false → X
not_both b e f = absurd (let g : true ≡ false = sym e ∙ f in cc)

-- a command's words are unread for want of memory alone
pub only_memory : (words : List (List ℕ)) (status : Status) → IsUnread words status → is_command words ≡ true → status ≡ NoMemory
only_memory words status (inl u) p = not_both (is_command words) p u.1
only_memory words status (inr n) p = n.0

-- ---- each status has a line

unread_printable : (words : List (List ℕ)) (status : Status) → IsUnread words status → is_printable status ≡ true
unread_printable words status (inl u) = rw u.0 refl
unread_printable words status (inr n) = rw n.0 refl

piped_printable : (status : Status) (left_old left_new : Option (List ℕ)) (old new : Sight) → Piped status left_old left_new old new → is_printable status ≡ true
piped_printable Fine lo ln ho hn v = refl
piped_printable Usage lo ln ho hn v = refl
piped_printable ReadFault lo ln ho hn v = refl
piped_printable WriteFault lo ln ho hn v = refl
piped_printable WordFault lo ln ho hn v = refl
piped_printable (BadFrame at size) lo ln ho hn v = refl
piped_printable (Torn at) lo ln ho hn v = refl
piped_printable (BadScript line cause) lo ln ho hn v = refl
piped_printable (BadTables speaks line) lo ln ho hn v = refl
piped_printable (AsEnded end) lo ln ho hn v = absurd v
piped_printable NoMemory lo ln ho hn v = refl
piped_printable (Flood limit) lo ln ho hn v = refl

pub any_printable : (words : List (List ℕ)) (status : Status) (left_old left_new holds_old holds_new : Option (List ℕ)) (old new : Sight) (dom : List ℕ) (before now : Outside)
    → (is_command words ≡ false → IsUnread words status) → (is_pipe words ≡ true → Piped status left_old left_new old new)
    → (is_authsrv words ≡ true → ServesSo dom status before now) → (is_world words ≡ true → WorldSo status left_old left_new holds_old holds_new)
    → ((given : GenWords) → gen_given words ≡ Some given → GenSo status given.number given.rounds holds_old holds_new) → is_printable status ≡ true
any_printable words status lo ln wo wn old new dom before now none piped served played summed = go (is_pipe words) (is_authsrv words) (is_world words) (gen_given words) refl refl refl refl
  where
    go : (p a w : Bool) (g : Option GenWords) → is_pipe words ≡ p → is_authsrv words ≡ a → is_world words ≡ w → gen_given words ≡ g → is_printable status ≡ true
    go true a w g ep ea ew eg = piped_printable status lo ln old new (piped ep)
    go false true w g ep ea ew eg = served_printable dom status before now (served ea)
    go false false true g ep ea ew eg = played_printable status lo ln wo wn (played ew)
    go false false false (Some given) ep ea ew eg = summed_printable status given.number given.rounds wo wn (summed given eg)
    go false false false None ep ea ew eg = unread_printable words status (none (rw (ep, ea, ew, eg) refl))

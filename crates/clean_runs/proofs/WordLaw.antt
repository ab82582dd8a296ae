-- In a clean record a word is used once.
use Rattle.std.proofs.Common.{◌≡◌, ℕ, ◌+◌, ◌≤◌, List, [], ◌∷◌, ◌++◌, length, true, refl, sym, ap, ◌∙◌, arith}
use Rattle.wire_histories.specs.declared.step.Step.{Step}
use Rattle.wire_histories.specs.declared.step.Step.TheVariants.{Start, Out, In, Ask, Heard, Unheard, Accept, Fail, Reply, Refused, AsGot, AsGave, AsEnd, Restart, Reload}
use Rattle.wire_histories.specs.declared.step.Protocol.{Protocol}
use Rattle.wire_histories.specs.declared.step.Role.{Role as Part}
use Rattle.symbolic_runs.specs.Trees.{nonce}
use Rattle.symbolic_runs.specs.Spellings.{Atoms}
use Rattle.symbolic_runs.specs.Moves.{Role, client, server, mail_client, mail_server}
use Rattle.wire_histories.specs.Histories.{History}
use Rattle.clean_runs.specs.Labels.{starts_in}
use Rattle.clean_runs.specs.Clean.{Reads, ReadsWord}
use Rattle.clean_runs.specs.Runs.{role_by}
use Rattle.clean_runs.specs.ExampleStatements.{WordsAreUsedOnce, uses_word}

read_word : (atoms : Atoms) (role : Role) (number : ℕ) (random : List ℕ) → uses_word role ≡ true → ReadsWord atoms role number random → Reads atoms (nonce number) random
read_word atoms client number random uses is = is
read_word atoms server number random uses is = is
read_word atoms (mail_client kind) number random uses is = absurd (cc)
read_word atoms (mail_server kind) number random uses is = is

-- ---- starts are counted

no_fewer : (step : Step) (past : History) → starts_in past ≤ starts_in (step ∷ past)
no_fewer (Start conv protocol part random) past = omega arith
no_fewer (Out number conv b) past = omega arith
no_fewer (In conv b) past = omega arith
no_fewer (Ask number conv b) past = omega arith
no_fewer (Heard conv b) past = omega arith
no_fewer (Unheard conv) past = omega arith
no_fewer (Accept conv cuid suid) past = omega arith
no_fewer (Fail conv cause) past = omega arith
no_fewer (Reply conv text) past = omega arith
no_fewer (Refused node text) past = omega arith
no_fewer (AsGot session b words) past = omega arith
no_fewer (AsGave number session b) past = omega arith
no_fewer (AsEnd session) past = omega arith
no_fewer (Restart node) past = omega arith
no_fewer Reload past = omega arith

more : (later : History) (conv : List ℕ) (protocol : Protocol) (part : Part) (random : List ℕ) (past : History) → starts_in past + 1 ≤ starts_in (later ++ Start conv protocol part random ∷ past)
more [] conv protocol part random past = omega arith
more (step ∷ later) conv protocol part random past = omega (arith, more later conv protocol part random past, no_fewer step (later ++ Start conv protocol part random ∷ past))

-- two starts behind as many others are one
same_place : (history : History) (first second : History) (a b : List ℕ) (pa pb : Protocol) (ra rb : Part) (wa wb : List ℕ) (one other : History) → history ≡ first ++ Start a pa ra wa ∷ one → history ≡ second ++ Start b pb rb wb ∷ other
    → starts_in one ≡ starts_in other → length one ≡ length other
same_place [] [] second a b pa pb ra rb wa wb one other is at same = absurd (cc)
same_place [] (x ∷ first) second a b pa pb ra rb wa wb one other is at same = absurd (cc)
same_place (step ∷ history) [] [] a b pa pb ra rb wa wb one other is at same =
    let here : history ≡ one = cc in
    let there : history ≡ other = cc in
    ap length (sym here ∙ there)
same_place (step ∷ history) [] (y ∷ second) a b pa pb ra rb wa wb one other is at same =
    let here : history ≡ one = cc in
    let there : history ≡ second ++ Start b pb rb wb ∷ other = cc in
    absurd (omega (arith, more second b pb rb wb other, ap starts_in (sym here ∙ there), same))
same_place (step ∷ history) (x ∷ first) [] a b pa pb ra rb wa wb one other is at same =
    let here : history ≡ first ++ Start a pa ra wa ∷ one = cc in
    let there : history ≡ other = cc in
    absurd (omega (arith, more first a pa ra wa one, ap starts_in (sym there ∙ here), same))
same_place (step ∷ history) (x ∷ first) (y ∷ second) a b pa pb ra rb wa wb one other is at same =
    let here : history ≡ first ++ Start a pa ra wa ∷ one = cc in
    let there : history ≡ second ++ Start b pb rb wb ∷ other = cc in
    same_place history first second a b pa pb ra rb wa wb one other here there same

pub words_once : WordsAreUsedOnce
words_once history z atoms l clean random one other first second =
    let read_one = read_word atoms (role_by first.protocol first.part) (starts_in one) random first.uses (clean.words first.later one (Start first.conv first.protocol first.part random) first.place) in
    let read_other = read_word atoms (role_by second.protocol second.part) (starts_in other) random second.uses (clean.words second.later other (Start second.conv second.protocol second.part random) second.place) in
    let equal : nonce (starts_in one) ≡ nonce (starts_in other) = clean.nonces_apart (nonce (starts_in one)) (nonce (starts_in other)) random refl refl read_one read_other in
    let same : starts_in one ≡ starts_in other = cc in
    same_place history first.later second.later first.conv second.conv first.protocol second.protocol first.part second.part random random one other first.place second.place same

-- That the test of holders decides.
use Rattle.std.proofs.Common.{◌≡◌, ◌↔◌, ℕ, List, [], ◌∷◌, ◌++◌, Some, None, Option, Bool, true, ◌&&◌, sym, refl, subst, ap, ◌∙◌, is_some, option_map, reverse, unwrap_or}
use Rattle.std.proofs.lemmas.Bool.{true≢false}
use Rattle.std.proofs.lemmas.List.{reverse-append}
use Rattle.std.specs.List.{list_all}
use Rattle.auth_tables.specs.Keys.{UserKey}
use Rattle.symbolic_runs.specs.Moves.{Role}
use Rattle.symbolic_runs.specs.Spellings.{Atoms}
use Rattle.trace_labels.specs.Lines.{Line}
use Rattle.wire_histories.specs.declared.step.Step.{Step}
use Rattle.wire_histories.specs.declared.step.Step.TheVariants.{Start, Out, In, Ask, Heard, Unheard, Accept, Fail, Reply, Refused, AsGot, AsGave, AsEnd, Restart, Reload}
use Rattle.wire_histories.specs.Histories.{History}
use Rattle.wire_histories.specs.Legal.{Setting}
use Rattle.wire_histories.specs.Noted.{IsNotedOf, Noted, kept_at}
use Rattle.clean_runs.specs.Clean.{ReadsHolder}
use Rattle.clean_runs.specs.Labels.{Labelling}
use Rattle.clean_runs.specs.Runs.{role_by}
use Rattle.trace_runs.specs.Holders.{HasHolder, ReadsHolders, TellsHolders, reads_noted, reads_start}
use Rattle.trace_runs.specs.Readings.{holder_in}
use Rattle.trace_runs.specs.Tables.{held_by, reads_held, reads_holder}
use Rattle.trace_runs.specs.Words.{at_each_place}
use Rattle.trace_runs.proofs.TableLaws.{holder_read, read_holder}
use Rattle.trace_runs.proofs.WordLaws.{all_places, both_ways, every_place, together}

-- ---- one conversation

abbrev as_held : Option UserKey → Option (List ℕ × Option (List ℕ))
as_held o = option_map (λ key. (key.des, key.password)) o

noted_read : (atoms : Atoms) (role : Role) (h : Option (List ℕ)) (o : Option UserKey) → reads_noted atoms role h o ≡ true
    → (reads_held atoms role (unwrap_or h []) (as_held o) ≡ true) × (is_some o ≡ true → is_some h ≡ true)
noted_read atoms role h None so = (refl, λ no. absurd (true≢false (sym no)))
noted_read atoms role None (Some key) so = absurd (true≢false (sym so))
noted_read atoms role (Some holder) (Some key) so = (so, λ is. refl)

read_noted : (atoms : Atoms) (role : Role) (h : Option (List ℕ)) (o : Option UserKey)
    → reads_held atoms role (unwrap_or h []) (as_held o) ≡ true → (is_some o ≡ true → is_some h ≡ true) → reads_noted atoms role h o ≡ true
read_noted atoms role h None so told = refl
read_noted atoms role None (Some key) so told = absurd (true≢false (sym (told refl)))
read_noted atoms role (Some holder) (Some key) so told = so

-- ---- one step

abbrev Holds : Atoms → List Line → Setting → Labelling → History → Step → Type 0
Holds atoms lines z l past step = ReadsHolder atoms z l past step × HasHolder lines z past step

start_read : (atoms : Atoms) (lines : List Line) (z : Setting) (l : Labelling) (n : Noted) → IsNotedOf z n → TellsHolders lines l
    → (past : History) (step : Step) → reads_start atoms lines n step ≡ true → Holds atoms lines z l past step
start_read atoms lines z l n noted told past (Start conv protocol role random) so =
    let kept : reads_noted atoms (role_by protocol role) (holder_in conv lines) (kept_at z conv) ≡ true =
    subst (λ (o : Option UserKey). reads_noted atoms (role_by protocol role) (holder_in conv lines) o ≡ true) (noted.keys conv) so in
    let both = noted_read atoms (role_by protocol role) (holder_in conv lines) (kept_at z conv) kept in
    let read : reads_holder atoms z l past (Start conv protocol role random) ≡ true =
    subst (λ (h : List ℕ). reads_held atoms (role_by protocol role) h (held_by (z.spoken conv)) ≡ true) (sym (told conv)) both.0 in
    (holder_read atoms z l past (Start conv protocol role random) read, both.1)
start_read atoms lines z l n noted told past (Out number conv b) so = (tt, tt)
start_read atoms lines z l n noted told past (In conv b) so = (tt, tt)
start_read atoms lines z l n noted told past (Ask number conv b) so = (tt, tt)
start_read atoms lines z l n noted told past (Heard conv b) so = (tt, tt)
start_read atoms lines z l n noted told past (Unheard conv) so = (tt, tt)
start_read atoms lines z l n noted told past (Accept conv cuid suid) so = (tt, tt)
start_read atoms lines z l n noted told past (Fail conv cause) so = (tt, tt)
start_read atoms lines z l n noted told past (Reply conv answer) so = (tt, tt)
start_read atoms lines z l n noted told past (Refused node answer) so = (tt, tt)
start_read atoms lines z l n noted told past (AsGot session b words) so = (tt, tt)
start_read atoms lines z l n noted told past (AsGave number session b) so = (tt, tt)
start_read atoms lines z l n noted told past (AsEnd session) so = (tt, tt)
start_read atoms lines z l n noted told past (Restart node) so = (tt, tt)
start_read atoms lines z l n noted told past Reload so = (tt, tt)

read_start : (atoms : Atoms) (lines : List Line) (z : Setting) (l : Labelling) (n : Noted) → IsNotedOf z n → TellsHolders lines l
    → (past : History) (step : Step) → Holds atoms lines z l past step → reads_start atoms lines n step ≡ true
read_start atoms lines z l n noted told past (Start conv protocol role random) both =
    let read : reads_holder atoms z l past (Start conv protocol role random) ≡ true =
    read_holder atoms z l past (Start conv protocol role random) both.0 in
    let named = subst (λ (h : List ℕ). reads_held atoms (role_by protocol role) h (held_by (z.spoken conv)) ≡ true) (told conv) read in
    subst (λ (o : Option UserKey). reads_noted atoms (role_by protocol role) (holder_in conv lines) o ≡ true) (sym (noted.keys conv))
    (read_noted atoms (role_by protocol role) (holder_in conv lines) (kept_at z conv) named both.1)
read_start atoms lines z l n noted told past (Out number conv b) both = refl
read_start atoms lines z l n noted told past (In conv b) both = refl
read_start atoms lines z l n noted told past (Ask number conv b) both = refl
read_start atoms lines z l n noted told past (Heard conv b) both = refl
read_start atoms lines z l n noted told past (Unheard conv) both = refl
read_start atoms lines z l n noted told past (Accept conv cuid suid) both = refl
read_start atoms lines z l n noted told past (Fail conv cause) both = refl
read_start atoms lines z l n noted told past (Reply conv answer) both = refl
read_start atoms lines z l n noted told past (Refused node answer) both = refl
read_start atoms lines z l n noted told past (AsGot session b words) both = refl
read_start atoms lines z l n noted told past (AsGave number session b) both = refl
read_start atoms lines z l n noted told past (AsEnd session) both = refl
read_start atoms lines z l n noted told past (Restart node) both = refl
read_start atoms lines z l n noted told past Reload both = refl

-- ---- all steps

in_both : (t : Step → Bool) (xs ys : List Step)
    → at_each_place (xs ++ ys) (λ past step. t step) ≡ (at_each_place xs (λ past step. t step) && at_each_place ys (λ past step. t step))
in_both t [] ys = refl
in_both t (x ∷ xs) ys =
    ap (λ (b : Bool). t x && b) (in_both t xs ys)
    ∙ sym (together (t x) (at_each_place xs (λ past step. t step)) (at_each_place ys (λ past step. t step)))

in_order : (t : Step → Bool) (steps : List Step) → list_all t steps ≡ at_each_place (reverse steps) (λ past step. t step)
in_order t [] = refl
in_order t (step ∷ steps) =
    let test : History → Step → Bool = λ past other. t other in
    let last : at_each_place (step ∷ []) test ≡ t step = both_ways (t step) true in
    let turned : reverse (step ∷ steps) ≡ reverse steps ++ step ∷ [] = reverse-append (step ∷ []) steps in
    ap (λ (b : Bool). t step && b) (in_order t steps)
    ∙ (both_ways (t step) (at_each_place (reverse steps) test)
    ∙ (ap (λ (b : Bool). at_each_place (reverse steps) test && b) (sym last)
    ∙ (sym (in_both t (reverse steps) (step ∷ [])) ∙ ap (λ (x : History). at_each_place x test) (sym turned))))

pub decides_holders : (atoms : Atoms) (lines : List Line) (n : Noted) (steps : List Step) (so : Bool) (z : Setting) (l : Labelling)
    → so ≡ list_all (reads_start atoms lines n) steps → IsNotedOf z n → TellsHolders lines l
    → (so ≡ true) ↔ ReadsHolders atoms lines z l (reverse steps)
decides_holders atoms lines n steps so z l e noted told =
    let test : History → Step → Bool = λ past step. reads_start atoms lines n step in
    let history : History = reverse steps in
    let whole : list_all (reads_start atoms lines n) steps ≡ at_each_place history test = in_order (reads_start atoms lines n) steps in (
      (λ is. record {
        read = all_places history test (ReadsHolder atoms z l) (λ past step h. (start_read atoms lines z l n noted told past step h).0) (sym whole ∙ (sym e ∙ is));
        told = all_places history test (HasHolder lines z) (λ past step h. (start_read atoms lines z l n noted told past step h).1) (sym whole ∙ (sym e ∙ is));
      }),
      (λ all. e ∙ (whole ∙ every_place history test (Holds atoms lines z l) (read_start atoms lines z l n noted told)
          (λ later past step at. (all.read later past step at, all.told later past step at)))),
    )

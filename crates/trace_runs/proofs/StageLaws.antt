-- What is kept of the choice of a protocol is what `is_choosing` asks.
use Rattle.std.proofs.Common.{◌≡◌, ℕ, refl, sym, ap, ◌∙◌, [], ◌∷◌, List, Bool, true, false, if◌then◌else◌}
use Rattle.conv_p9any.specs.Offers.{consents}
use Rattle.wire_histories.specs.declared.step.Protocol.TheVariants.{P9sk1, P9any, Apop, Cram}
use Rattle.wire_histories.specs.Histories.{Act, started, gave, took, asked, answered, unanswered, accepted, failed}
use Rattle.clean_runs.specs.Runs.{is_choosing}
use Rattle.trace_runs.specs.declared.conversation.Stage.{Stage}
use Rattle.trace_runs.specs.declared.conversation.Stage.TheVariants as stage
use Rattle.trace_runs.specs.Stages.{chooses, stage_after, stage_of}

by_list : (so : Bool) → true ≡ chooses (if so then stage.Offered else stage.Answering)
by_list true = refl
by_list false = refl

by_choice : (so : Bool) (choice : List ℕ) → so ≡ chooses (stage_after (if so then stage.Offered else stage.Answering) (gave choice))
by_choice true choice = refl
by_choice false choice = refl

other_choice : (so : Bool) (act : Act) → chooses (stage_after stage.Offered act) ≡ false → false ≡ chooses (stage_after (if so then stage.Offered else stage.Answering) act)
other_choice true act e = sym e
other_choice false act e = refl

offered_over : (b a : Act) → stage_after (stage_after stage.Offered b) a ≡ stage.Settled
offered_over (gave choice) a = refl
offered_over b a = refl

list_over : (so : Bool) (b a : Act) → stage_after (stage_after (if so then stage.Offered else stage.Answering) b) a ≡ stage.Settled
list_over true b a = offered_over b a
list_over false b a = refl

choosing_over : (c b a : Act) → stage_after (stage_after (stage_after stage.Choosing c) b) a ≡ stage.Settled
choosing_over (took list) b a = list_over (consents list) b a
choosing_over c b a = refl

over : (s : Stage) (d c b a : Act) → stage_after (stage_after (stage_after (stage_after s d) c) b) a ≡ stage.Settled
over stage.Unstarted (started P9any role word) c b a = choosing_over c b a
over stage.Unstarted d c b a = refl
over stage.Choosing (took list) c b a = ap (λ s. stage_after s a) (list_over (consents list) c b)
over stage.Choosing d c b a = refl
over stage.Offered d c b a = ap (λ s. stage_after (stage_after s b) a) (offered_over d c)
over stage.Answering d c b a = refl
over stage.Consenting d c b a = refl
over stage.Settled d c b a = refl

abbrev is_pair : Act → Act → Bool
is_pair (gave choice) (took list) = true
is_pair a b = false

long_false : (a b c : Act) (more : List Act) → is_pair a b ≡ false → is_choosing (a ∷ b ∷ c ∷ more) ≡ false
long_false (started P9any ra wa) (started P9any rb wb) c more e = refl
long_false (started P9any ra wa) (started P9sk1 rb wb) c more e = refl
long_false (started P9any ra wa) (started Apop rb wb) c more e = refl
long_false (started P9any ra wa) (started Cram rb wb) c more e = refl
long_false (started P9any ra wa) (gave xb) c more e = refl
long_false (started P9any ra wa) (took xb) c more e = refl
long_false (started P9any ra wa) (asked xb) c more e = refl
long_false (started P9any ra wa) (answered xb) c more e = refl
long_false (started P9any ra wa) unanswered c more e = refl
long_false (started P9any ra wa) (accepted xb yb) c more e = refl
long_false (started P9any ra wa) (failed xb) c more e = refl
long_false (started P9sk1 ra wa) (started P9any rb wb) c more e = refl
long_false (started P9sk1 ra wa) (started P9sk1 rb wb) c more e = refl
long_false (started P9sk1 ra wa) (started Apop rb wb) c more e = refl
long_false (started P9sk1 ra wa) (started Cram rb wb) c more e = refl
long_false (started P9sk1 ra wa) (gave xb) c more e = refl
long_false (started P9sk1 ra wa) (took xb) c more e = refl
long_false (started P9sk1 ra wa) (asked xb) c more e = refl
long_false (started P9sk1 ra wa) (answered xb) c more e = refl
long_false (started P9sk1 ra wa) unanswered c more e = refl
long_false (started P9sk1 ra wa) (accepted xb yb) c more e = refl
long_false (started P9sk1 ra wa) (failed xb) c more e = refl
long_false (started Apop ra wa) (started P9any rb wb) c more e = refl
long_false (started Apop ra wa) (started P9sk1 rb wb) c more e = refl
long_false (started Apop ra wa) (started Apop rb wb) c more e = refl
long_false (started Apop ra wa) (started Cram rb wb) c more e = refl
long_false (started Apop ra wa) (gave xb) c more e = refl
long_false (started Apop ra wa) (took xb) c more e = refl
long_false (started Apop ra wa) (asked xb) c more e = refl
long_false (started Apop ra wa) (answered xb) c more e = refl
long_false (started Apop ra wa) unanswered c more e = refl
long_false (started Apop ra wa) (accepted xb yb) c more e = refl
long_false (started Apop ra wa) (failed xb) c more e = refl
long_false (started Cram ra wa) (started P9any rb wb) c more e = refl
long_false (started Cram ra wa) (started P9sk1 rb wb) c more e = refl
long_false (started Cram ra wa) (started Apop rb wb) c more e = refl
long_false (started Cram ra wa) (started Cram rb wb) c more e = refl
long_false (started Cram ra wa) (gave xb) c more e = refl
long_false (started Cram ra wa) (took xb) c more e = refl
long_false (started Cram ra wa) (asked xb) c more e = refl
long_false (started Cram ra wa) (answered xb) c more e = refl
long_false (started Cram ra wa) unanswered c more e = refl
long_false (started Cram ra wa) (accepted xb yb) c more e = refl
long_false (started Cram ra wa) (failed xb) c more e = refl
long_false (gave xa) (started P9any rb wb) c more e = refl
long_false (gave xa) (started P9sk1 rb wb) c more e = refl
long_false (gave xa) (started Apop rb wb) c more e = refl
long_false (gave xa) (started Cram rb wb) c more e = refl
long_false (gave xa) (gave xb) c more e = refl
long_false (gave xa) (took xb) c more e = absurd (cc)
long_false (gave xa) (asked xb) c more e = refl
long_false (gave xa) (answered xb) c more e = refl
long_false (gave xa) unanswered c more e = refl
long_false (gave xa) (accepted xb yb) c more e = refl
long_false (gave xa) (failed xb) c more e = refl
long_false (took xa) (started P9any rb wb) c more e = refl
long_false (took xa) (started P9sk1 rb wb) c more e = refl
long_false (took xa) (started Apop rb wb) c more e = refl
long_false (took xa) (started Cram rb wb) c more e = refl
long_false (took xa) (gave xb) c more e = refl
long_false (took xa) (took xb) c more e = refl
long_false (took xa) (asked xb) c more e = refl
long_false (took xa) (answered xb) c more e = refl
long_false (took xa) unanswered c more e = refl
long_false (took xa) (accepted xb yb) c more e = refl
long_false (took xa) (failed xb) c more e = refl
long_false (asked xa) (started P9any rb wb) c more e = refl
long_false (asked xa) (started P9sk1 rb wb) c more e = refl
long_false (asked xa) (started Apop rb wb) c more e = refl
long_false (asked xa) (started Cram rb wb) c more e = refl
long_false (asked xa) (gave xb) c more e = refl
long_false (asked xa) (took xb) c more e = refl
long_false (asked xa) (asked xb) c more e = refl
long_false (asked xa) (answered xb) c more e = refl
long_false (asked xa) unanswered c more e = refl
long_false (asked xa) (accepted xb yb) c more e = refl
long_false (asked xa) (failed xb) c more e = refl
long_false (answered xa) (started P9any rb wb) c more e = refl
long_false (answered xa) (started P9sk1 rb wb) c more e = refl
long_false (answered xa) (started Apop rb wb) c more e = refl
long_false (answered xa) (started Cram rb wb) c more e = refl
long_false (answered xa) (gave xb) c more e = refl
long_false (answered xa) (took xb) c more e = refl
long_false (answered xa) (asked xb) c more e = refl
long_false (answered xa) (answered xb) c more e = refl
long_false (answered xa) unanswered c more e = refl
long_false (answered xa) (accepted xb yb) c more e = refl
long_false (answered xa) (failed xb) c more e = refl
long_false unanswered (started P9any rb wb) c more e = refl
long_false unanswered (started P9sk1 rb wb) c more e = refl
long_false unanswered (started Apop rb wb) c more e = refl
long_false unanswered (started Cram rb wb) c more e = refl
long_false unanswered (gave xb) c more e = refl
long_false unanswered (took xb) c more e = refl
long_false unanswered (asked xb) c more e = refl
long_false unanswered (answered xb) c more e = refl
long_false unanswered unanswered c more e = refl
long_false unanswered (accepted xb yb) c more e = refl
long_false unanswered (failed xb) c more e = refl
long_false (accepted xa ya) (started P9any rb wb) c more e = refl
long_false (accepted xa ya) (started P9sk1 rb wb) c more e = refl
long_false (accepted xa ya) (started Apop rb wb) c more e = refl
long_false (accepted xa ya) (started Cram rb wb) c more e = refl
long_false (accepted xa ya) (gave xb) c more e = refl
long_false (accepted xa ya) (took xb) c more e = refl
long_false (accepted xa ya) (asked xb) c more e = refl
long_false (accepted xa ya) (answered xb) c more e = refl
long_false (accepted xa ya) unanswered c more e = refl
long_false (accepted xa ya) (accepted xb yb) c more e = refl
long_false (accepted xa ya) (failed xb) c more e = refl
long_false (failed xa) (started P9any rb wb) c more e = refl
long_false (failed xa) (started P9sk1 rb wb) c more e = refl
long_false (failed xa) (started Apop rb wb) c more e = refl
long_false (failed xa) (started Cram rb wb) c more e = refl
long_false (failed xa) (gave xb) c more e = refl
long_false (failed xa) (took xb) c more e = refl
long_false (failed xa) (asked xb) c more e = refl
long_false (failed xa) (answered xb) c more e = refl
long_false (failed xa) unanswered c more e = refl
long_false (failed xa) (accepted xb yb) c more e = refl
long_false (failed xa) (failed xb) c more e = refl

pair_long : (choice list : List ℕ) (c d : Act) (more : List Act) → is_choosing (gave choice ∷ took list ∷ c ∷ d ∷ more) ≡ false
pair_long choice list (started P9any rc wc) d more = refl
pair_long choice list (started P9sk1 rc wc) d more = refl
pair_long choice list (started Apop rc wc) d more = refl
pair_long choice list (started Cram rc wc) d more = refl
pair_long choice list (gave xc) d more = refl
pair_long choice list (took xc) d more = refl
pair_long choice list (asked xc) d more = refl
pair_long choice list (answered xc) d more = refl
pair_long choice list unanswered d more = refl
pair_long choice list (accepted xc yc) d more = refl
pair_long choice list (failed xc) d more = refl

long_over : (a b c d : Act) (more : List Act) (so : Bool) → is_pair a b ≡ so → is_choosing (a ∷ b ∷ c ∷ d ∷ more) ≡ false
long_over (gave choice) (took list) c d more so e = pair_long choice list c d more
long_over a b c d more false e = long_false a b c (d ∷ more) e
long_over a b c d more true e = absurd (cc)

choosing_pair : (a b : Act) → is_pair a b ≡ false → false ≡ chooses (stage_after (stage_after stage.Choosing b) a)
choosing_pair (gave choice) (took list) e = absurd (cc)
choosing_pair a (took list) e = other_choice (consents list) a refl
choosing_pair a b e = refl

started_pair : (a b c : Act) → is_pair a b ≡ false → false ≡ chooses (stage_after (stage_after (stage_after stage.Unstarted c) b) a)
started_pair a b (started P9any rc wc) e = choosing_pair a b e
started_pair a b (started P9sk1 rc wc) e = refl
started_pair a b (started Apop rc wc) e = refl
started_pair a b (started Cram rc wc) e = refl
started_pair a b (gave xc) e = refl
started_pair a b (took xc) e = refl
started_pair a b (asked xc) e = refl
started_pair a b (answered xc) e = refl
started_pair a b unanswered e = refl
started_pair a b (accepted xc yc) e = refl
started_pair a b (failed xc) e = refl

pair_three : (choice list : List ℕ) (c : Act) → is_choosing (gave choice ∷ took list ∷ c ∷ []) ≡ chooses (stage_after (stage_after (stage_after stage.Unstarted c) (took list)) (gave choice))
pair_three choice list (started P9any rc wc) = by_choice (consents list) choice
pair_three choice list (started P9sk1 rc wc) = refl
pair_three choice list (started Apop rc wc) = refl
pair_three choice list (started Cram rc wc) = refl
pair_three choice list (gave xc) = refl
pair_three choice list (took xc) = refl
pair_three choice list (asked xc) = refl
pair_three choice list (answered xc) = refl
pair_three choice list unanswered = refl
pair_three choice list (accepted xc yc) = refl
pair_three choice list (failed xc) = refl

three : (a b c : Act) (so : Bool) → is_pair a b ≡ so → is_choosing (a ∷ b ∷ c ∷ []) ≡ chooses (stage_after (stage_after (stage_after stage.Unstarted c) b) a)
three (gave choice) (took list) c so e = pair_three choice list c
three a b c false e = long_false a b c [] e ∙ started_pair a b c e
three a b c true e = absurd (cc)

pair_two : (a b : Act) → is_choosing (a ∷ b ∷ []) ≡ chooses (stage_after (stage_after stage.Unstarted b) a)
pair_two (started P9any ra wa) (started P9any rb wb) = refl
pair_two (started P9any ra wa) (started P9sk1 rb wb) = refl
pair_two (started P9any ra wa) (started Apop rb wb) = refl
pair_two (started P9any ra wa) (started Cram rb wb) = refl
pair_two (started P9any ra wa) (gave xb) = refl
pair_two (started P9any ra wa) (took xb) = refl
pair_two (started P9any ra wa) (asked xb) = refl
pair_two (started P9any ra wa) (answered xb) = refl
pair_two (started P9any ra wa) unanswered = refl
pair_two (started P9any ra wa) (accepted xb yb) = refl
pair_two (started P9any ra wa) (failed xb) = refl
pair_two (started P9sk1 ra wa) (started P9any rb wb) = refl
pair_two (started P9sk1 ra wa) (started P9sk1 rb wb) = refl
pair_two (started P9sk1 ra wa) (started Apop rb wb) = refl
pair_two (started P9sk1 ra wa) (started Cram rb wb) = refl
pair_two (started P9sk1 ra wa) (gave xb) = refl
pair_two (started P9sk1 ra wa) (took xb) = refl
pair_two (started P9sk1 ra wa) (asked xb) = refl
pair_two (started P9sk1 ra wa) (answered xb) = refl
pair_two (started P9sk1 ra wa) unanswered = refl
pair_two (started P9sk1 ra wa) (accepted xb yb) = refl
pair_two (started P9sk1 ra wa) (failed xb) = refl
pair_two (started Apop ra wa) (started P9any rb wb) = refl
pair_two (started Apop ra wa) (started P9sk1 rb wb) = refl
pair_two (started Apop ra wa) (started Apop rb wb) = refl
pair_two (started Apop ra wa) (started Cram rb wb) = refl
pair_two (started Apop ra wa) (gave xb) = refl
pair_two (started Apop ra wa) (took xb) = refl
pair_two (started Apop ra wa) (asked xb) = refl
pair_two (started Apop ra wa) (answered xb) = refl
pair_two (started Apop ra wa) unanswered = refl
pair_two (started Apop ra wa) (accepted xb yb) = refl
pair_two (started Apop ra wa) (failed xb) = refl
pair_two (started Cram ra wa) (started P9any rb wb) = refl
pair_two (started Cram ra wa) (started P9sk1 rb wb) = refl
pair_two (started Cram ra wa) (started Apop rb wb) = refl
pair_two (started Cram ra wa) (started Cram rb wb) = refl
pair_two (started Cram ra wa) (gave xb) = refl
pair_two (started Cram ra wa) (took xb) = refl
pair_two (started Cram ra wa) (asked xb) = refl
pair_two (started Cram ra wa) (answered xb) = refl
pair_two (started Cram ra wa) unanswered = refl
pair_two (started Cram ra wa) (accepted xb yb) = refl
pair_two (started Cram ra wa) (failed xb) = refl
pair_two (gave xa) (started P9any rb wb) = refl
pair_two (gave xa) (started P9sk1 rb wb) = refl
pair_two (gave xa) (started Apop rb wb) = refl
pair_two (gave xa) (started Cram rb wb) = refl
pair_two (gave xa) (gave xb) = refl
pair_two (gave xa) (took xb) = refl
pair_two (gave xa) (asked xb) = refl
pair_two (gave xa) (answered xb) = refl
pair_two (gave xa) unanswered = refl
pair_two (gave xa) (accepted xb yb) = refl
pair_two (gave xa) (failed xb) = refl
pair_two (took xa) (started P9any rb wb) = by_list (consents xa)
pair_two (took xa) (started P9sk1 rb wb) = refl
pair_two (took xa) (started Apop rb wb) = refl
pair_two (took xa) (started Cram rb wb) = refl
pair_two (took xa) (gave xb) = refl
pair_two (took xa) (took xb) = refl
pair_two (took xa) (asked xb) = refl
pair_two (took xa) (answered xb) = refl
pair_two (took xa) unanswered = refl
pair_two (took xa) (accepted xb yb) = refl
pair_two (took xa) (failed xb) = refl
pair_two (asked xa) (started P9any rb wb) = refl
pair_two (asked xa) (started P9sk1 rb wb) = refl
pair_two (asked xa) (started Apop rb wb) = refl
pair_two (asked xa) (started Cram rb wb) = refl
pair_two (asked xa) (gave xb) = refl
pair_two (asked xa) (took xb) = refl
pair_two (asked xa) (asked xb) = refl
pair_two (asked xa) (answered xb) = refl
pair_two (asked xa) unanswered = refl
pair_two (asked xa) (accepted xb yb) = refl
pair_two (asked xa) (failed xb) = refl
pair_two (answered xa) (started P9any rb wb) = refl
pair_two (answered xa) (started P9sk1 rb wb) = refl
pair_two (answered xa) (started Apop rb wb) = refl
pair_two (answered xa) (started Cram rb wb) = refl
pair_two (answered xa) (gave xb) = refl
pair_two (answered xa) (took xb) = refl
pair_two (answered xa) (asked xb) = refl
pair_two (answered xa) (answered xb) = refl
pair_two (answered xa) unanswered = refl
pair_two (answered xa) (accepted xb yb) = refl
pair_two (answered xa) (failed xb) = refl
pair_two unanswered (started P9any rb wb) = refl
pair_two unanswered (started P9sk1 rb wb) = refl
pair_two unanswered (started Apop rb wb) = refl
pair_two unanswered (started Cram rb wb) = refl
pair_two unanswered (gave xb) = refl
pair_two unanswered (took xb) = refl
pair_two unanswered (asked xb) = refl
pair_two unanswered (answered xb) = refl
pair_two unanswered unanswered = refl
pair_two unanswered (accepted xb yb) = refl
pair_two unanswered (failed xb) = refl
pair_two (accepted xa ya) (started P9any rb wb) = refl
pair_two (accepted xa ya) (started P9sk1 rb wb) = refl
pair_two (accepted xa ya) (started Apop rb wb) = refl
pair_two (accepted xa ya) (started Cram rb wb) = refl
pair_two (accepted xa ya) (gave xb) = refl
pair_two (accepted xa ya) (took xb) = refl
pair_two (accepted xa ya) (asked xb) = refl
pair_two (accepted xa ya) (answered xb) = refl
pair_two (accepted xa ya) unanswered = refl
pair_two (accepted xa ya) (accepted xb yb) = refl
pair_two (accepted xa ya) (failed xb) = refl
pair_two (failed xa) (started P9any rb wb) = refl
pair_two (failed xa) (started P9sk1 rb wb) = refl
pair_two (failed xa) (started Apop rb wb) = refl
pair_two (failed xa) (started Cram rb wb) = refl
pair_two (failed xa) (gave xb) = refl
pair_two (failed xa) (took xb) = refl
pair_two (failed xa) (asked xb) = refl
pair_two (failed xa) (answered xb) = refl
pair_two (failed xa) unanswered = refl
pair_two (failed xa) (accepted xb yb) = refl
pair_two (failed xa) (failed xb) = refl

pub choosing_is : (acts : List Act) → is_choosing acts ≡ chooses (stage_of acts)
choosing_is [] = refl
choosing_is ((started P9any ra wa) ∷ []) = refl
choosing_is ((started P9sk1 ra wa) ∷ []) = refl
choosing_is ((started Apop ra wa) ∷ []) = refl
choosing_is ((started Cram ra wa) ∷ []) = refl
choosing_is ((gave xa) ∷ []) = refl
choosing_is ((took xa) ∷ []) = refl
choosing_is ((asked xa) ∷ []) = refl
choosing_is ((answered xa) ∷ []) = refl
choosing_is (unanswered ∷ []) = refl
choosing_is ((accepted xa ya) ∷ []) = refl
choosing_is ((failed xa) ∷ []) = refl
choosing_is (a ∷ b ∷ []) = pair_two a b
choosing_is (a ∷ b ∷ c ∷ []) = three a b c (is_pair a b) refl
choosing_is (a ∷ b ∷ c ∷ d ∷ more) = long_over a b c d more (is_pair a b) refl ∙ ap chooses (sym (over (stage_of more) d c b a))

use Rattle.std.proofs.Common.{◌≡◌, Some, None, refl, sym, ◌∙◌}
use Rattle.std.proofs.lemmas.Result.{IfOk-weaker, on_ok_weaker}
use Rattle.auth_tables.proofs.MapLemmas.{found_by_bytes, put_by_bytes}
use Rattle.clean_runs.specs.Agreement.{own_in}
use Rattle.clean_runs.specs.Labels.{labelled}
use Rattle.trace_runs.specs.Network.{labelled_act}
use Rattle.trace_runs.specs.Views.{role_of}
use Rattle.trace_runs.proofs.NetworkLaws.{acted_so, begun_there, given_so, started_there, talk_there}
use Rattle.trace_runs.proofs.network.Conversations.act.Goals as goal

pub returns-in_default-clause-stand : goal.returns-in_default-clause-stand
returns-in_default-clause-stand c = λ l past step done is tells begun h.
    let none = started_there l past c.args.name.now c.args.self.now h (sym (c.in_default.ensures.value ∙ found_by_bytes (λ key. key.items) c.args.name.now _)) in
    absurd (let both : Some begun.0 ≡ None = sym begun.1 ∙ none in cc)

pub returns-in_default-clause-given : goal.returns-in_default-clause-given
returns-in_default-clause-given c = λ l past done tells begun h s at.
    let none = started_there l past c.args.name.now c.args.self.now h (sym (c.in_default.ensures.value ∙ found_by_bytes (λ key. key.items) c.args.name.now _)) in
    absurd (let both : Some begun.0 ≡ None = sym begun.1 ∙ none in cc)

pub returns-clause-stand : goal.returns-clause-stand
returns-clause-stand c = λ l past step done is tells begun h.
    let writes = c.get_mut.follows.holds c.act.new.self in
    let changed = writes.3 (rw (← c.in-Some.ensures.value) refl) in
    let name = c.args.name.now in
    let found = sym (c.in-Some.ensures.value ∙ found_by_bytes (λ key. key.items) name _) in
    let was = talk_there l past name c.args.self.now c.in-Some.conversation.now h found in
    on_ok_weaker c.act.result (λ acted. acted_so l past step name done c.in-Some.conversation.now c.act.new.self c.args.self.now _ is found refl
    (put_by_bytes (λ key. key.items) name _ _ _ changed.1 changed.3) (λ talk. acted) h)
    (c.act.ensures.ok (own_in l name past) (role_of c.in-Some.conversation.now.role) (labelled l name past) (labelled_act l past done) tells was.stands)

pub returns-clause-given : goal.returns-clause-given
returns-clause-given c = λ l past done tells begun h.
    let name = c.args.name.now in
    let found = sym (c.in-Some.ensures.value ∙ found_by_bytes (λ key. key.items) name _) in
    let was = talk_there l past name c.args.self.now c.in-Some.conversation.now h found in
    IfOk-weaker c.act.result _ _ (λ gives by s at. given_so l past name done c.in-Some.conversation.now _ s was at (by s))
    (c.act.ensures.given (own_in l name past) (role_of c.in-Some.conversation.now.role) (labelled l name past) (labelled_act l past done) tells was.stands)

pub returns-clause-unstarted : goal.returns-clause-unstarted
returns-clause-unstarted c = λ l past none h.
    let begun = begun_there l past c.args.name.now c.args.self.now c.in-Some.conversation.now h (sym (c.in-Some.ensures.value ∙ found_by_bytes (λ key. key.items) c.args.name.now _)) in
    absurd (let both : Some begun.0 ≡ None = sym begun.1 ∙ none in cc)

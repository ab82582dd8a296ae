use Rattle.std.proofs.Common.{ℕ, List, [], ◌∷◌, ◌++◌, None, refl, ap, ◌∙◌}
use Rattle.std.proofs.lemmas.Result.{on_ok_weaker}
use Rattle.attr_tuples.specs.Matching.{texts_of}
use Rattle.auth_tables.proofs.MapLemmas.{put_by_bytes, put_by_query}
use Rattle.auth_tables.proofs.SpeakLemmas.{found_names, put_names}
use Rattle.auth_tables.proofs.speaks.SpeaksTable.put.Goals as goal

pub returns-in-Some : goal.returns-in-Some
returns-in-Some c =
    let writes = c.get_mut.follows.holds c.push.new.self in
    let changed = writes.3 (rw (← c.in-Some.ensures.value) refl) in
    let found = found_names (λ key. key.items) c.as_slice.result.now c.args.host.items c.self.inside.hosts.entries _ c.as_slice.ensures.value c.in-Some.ensures.value in
    on_ok_weaker c.push.result (λ pushed. rw (← c.self.view_is) (
    put_names c.args.host.items _ _ c.push.new.self _
    (put_by_query (λ key. key.items) c.as_slice.result.now c.args.host.items _ _ _ c.as_slice.ensures.value changed.1 changed.3)
    (pushed ∙ ap (λ (names : List (List ℕ)). names ++ texts_of (117 ∷ 105 ∷ 100 ∷ []) c.args.line) found)))
    c.push.ensures

pub returns : goal.returns
returns c =
    let changed = c.in_ok-insert.ensures.updates in
    let same = c.get_mut.follows.holds-at-none in
    let found = found_names (λ key. key.items) c.as_slice.result.now c.args.host.items c.self.inside.hosts.entries None c.as_slice.ensures.value c.in_default.ensures.value in
    rw (← c.self.view_is) (rw (← same) (
    put_names c.args.host.items _ _ c.push-2.new.self _
    (put_by_bytes (λ key. key.items) c.args.host.items _ c.get_mut.follows.lender-at-none.entries c.insert.new.self.entries changed.1 changed.3)
    (c.in_ok-push.ensures ∙ ap (λ (names : List (List ℕ)). names ++ texts_of (117 ∷ 105 ∷ 100 ∷ []) c.args.line) (c.new-lines.ensures ∙ rw same found))))

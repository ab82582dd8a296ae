use Rattle.std.proofs.Common.{◌≡◌, List, ℕ, get_or, ap, sym, subst, ◌∙◌}
use Rattle.std.specs.List.{position}
use Rattle.key_lists.specs.Lists.{KeyEntry}
use Rattle.key_ring.specs.declared.wanted.Wanted.TheVariants as w
use Rattle.key_ring.specs.Indexed.{Indexed, is_asked_for}
use Rattle.key_ring.specs.Ranks.{IsRising}
use Rattle.key_ring.specs.Wanting.{first_of}
use Rattle.key_ring.proofs.AskedLemmas.{serving_is_asked}
use Rattle.key_ring.proofs.LookLemmas.{found_behind, numbers_rise}
use Rattle.key_ring.proofs.NumberLemmas.{has_number}
use Rattle.key_ring.proofs.indexed_keys.IndexedKeys.next_after.Goals as goal

pub later-requires : goal.later-requires
later-requires c =
    let keys : c.self.inside.keys.items ≡ c.args.self.now.keys = ap (λ (s : Indexed). s.keys) c.self.view_is in
    numbers_rise (λ key. is_asked_for c.args.template.now key.tuple) c.args.self.now.keys c.in-Some-candidates.serials.now (subst IsRising keys c.self.invariant.rising) c.in-Some-candidates.ensures

pub returns-in-Some-candidates : goal.returns-in-Some-candidates
returns-in-Some-candidates c =
    let keys : c.self.inside.keys.items ≡ c.args.self.now.keys = ap (λ (s : Indexed). s.keys) c.self.view_is in
    let wanted = w.Serving c.args.template c.args.role in
    let place = ap (λ (ks : List KeyEntry). position (has_number c.args.serial) ks) (sym (c.deref.ensures.value ∙ keys)) ∙ sym c.in-Some.ensures in
    c.find_among.ensures ∙ ap (λ (ks : List KeyEntry). first_of wanted ks c.later.result.now) (c.deref-in-Some-candidates.ensures.value ∙ keys)
    ∙ ap (λ (ss : List ℕ). first_of wanted c.args.self.now.keys ss) c.later.ensures
    ∙ found_behind wanted (λ key. is_asked_for c.args.template.now key.tuple) c.args.serial c.in-Some.at c.args.self.now.keys c.in-Some-candidates.serials.now (subst IsRising keys c.self.invariant.rising) place c.in-Some-candidates.ensures
    (λ k d lt. serving_is_asked c.args.template.now c.args.role.now (get_or c.args.self.now.keys k d))

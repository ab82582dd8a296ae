use Rattle.std.proofs.Common.{◌≡◌, List, get_or, ap, sym, subst, ◌∙◌}
use Rattle.std.specs.List.{position}
use Rattle.attr_tuples.specs.Matching.{matches}
use Rattle.key_lists.specs.Lists.{KeyEntry}
use Rattle.key_ring.specs.Indexed.{Indexed}
use Rattle.key_ring.specs.Ranks.{IsRising}
use Rattle.key_ring.proofs.AskedLemmas.{matching_is_asked}
use Rattle.key_ring.proofs.LookLemmas.{place_of_found, place_of_none}
use Rattle.key_ring.proofs.NumberLemmas.{has_number}
use Rattle.key_ring.proofs.indexed_keys.IndexedKeys.find_matching.Goals as goal

pub find_wanted-requires : goal.find_wanted-requires
find_wanted-requires c = λ k d lt. matching_is_asked c.args.template.now (get_or c.args.self.now.keys k d).tuple

pub returns-in-Some : goal.returns-in-Some
returns-in-Some c =
    let keys : c.self.inside.keys.items ≡ c.args.self.now.keys = ap (λ (s : Indexed). s.keys) c.self.view_is in
    c.find_place.ensures ∙ ap (λ (ks : List KeyEntry). position (has_number c.serial.result) ks) (c.deref.ensures.value ∙ keys)
    ∙ ap (λ n. position (has_number n) c.args.self.now.keys) c.serial.ensures
    ∙ place_of_found (λ key. matches c.args.template.now key.tuple) c.args.self.now.keys c.in-Some.key.now (subst IsRising keys c.self.invariant.rising) (sym c.in-Some.ensures)

pub returns-in-None : goal.returns-in-None
returns-in-None c = place_of_none (λ key. matches c.args.template.now key.tuple) c.args.self.now.keys (sym c.in-None.ensures)

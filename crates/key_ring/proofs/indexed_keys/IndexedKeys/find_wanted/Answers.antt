use Rattle.std.proofs.Common.{◌≡◌, List, ap, subst, ◌∙◌}
use Rattle.key_lists.specs.Lists.{KeyEntry}
use Rattle.key_ring.specs.Indexed.{Indexed, is_asked_for}
use Rattle.key_ring.specs.Ranks.{IsRising}
use Rattle.key_ring.specs.Wanting.{first_of}
use Rattle.key_ring.proofs.LookLemmas.{found_among}
use Rattle.key_ring.proofs.indexed_keys.IndexedKeys.find_wanted.Goals as goal

pub returns-in-Some : goal.returns-in-Some
returns-in-Some c =
    let keys : c.self.inside.keys.items ≡ c.args.self.now.keys = ap (λ (s : Indexed). s.keys) c.self.view_is in
    let seen = c.deref.ensures.value ∙ keys in
    c.find_among.ensures ∙ ap (λ (ks : List KeyEntry). first_of c.args.wanted.now ks c.in-Some.serials.now) seen
    ∙ found_among c.args.wanted.now (λ key. is_asked_for c.args.template.now key.tuple) c.args.self.now.keys c.in-Some.serials.now (subst IsRising keys c.self.invariant.rising) c.in-Some.ensures c.requires

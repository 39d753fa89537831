-- What is late, bundle by bundle.
use Rattle.std.proofs.Common.{◌≡◌, ℕ, ◌<◌, List, [], ◌∷◌, length, get_or, map, Vec, Global, refl, ap, sym, ◌∙◌, zero-add, arith}
use Rattle.std.specs.List.{AllZip, flat_map, range_with_len}
use Rattle.std.proofs.lemmas.List.{get_or-map, length-map}
use Rattle.std.proofs.lemmas.List.Folds.{flat_map-map}
use Rattle.std.proofs.lemmas.List.FromFn.{get_or-map-range_with_len, length-range_with_len}
use Rattle.mp_records.specs.declared.ids.BundleId.{BundleId}
use Rattle.mp_netlist.specs.Circuit.{Circuit}
use Rattle.mp_questions.specs.declared.late.late.Late.{Late}
use Rattle.mp_questions.specs.late.Lists.{late_lists}
use Rattle.mp_questions.specs.late.Searching.{bundle_numbers, late_over}

-- lists that belong to others place by place
pub zip_map : {A B C : Type 0} (f : A → C) (g : B → C) (xs : List A) (ys : List B) → AllZip (λ x y. g y ≡ f x) xs ys → map g ys ≡ map f xs
zip_map f g [] [] zip = refl
zip_map f g (x ∷ xs) (y ∷ ys) zip = ap (λ c. c ∷ map g ys) zip.0 ∙ ap (λ l. f x ∷ l) (zip_map f g xs ys zip.1)
zip_map f g xs ys zip = absurd zip

-- the same lists, one after the other
pub flat_map_same : {A B C : Type 0} (f : A → List C) (g : B → List C) (xs : List A) (ys : List B) → map f xs ≡ map g ys → flat_map f xs ≡ flat_map g ys
flat_map_same f g xs ys same = sym (flat_map-map (λ l. l) f xs) ∙ ap (flat_map (λ l. l)) same ∙ flat_map-map (λ l. l) g ys

module _ (n : Circuit) (lists : List (Vec Late Global)) (same : map (λ (list : Vec Late Global). list.items) lists ≡ late_lists n) where
  abbrev numbered : ℕ → BundleId
  numbered k = record { 0 = k }

  -- there are as many as bundles
  pub list_count : length lists ≡ length n.bundles
  list_count =
      sym (length-map lists (λ (list : Vec Late Global). list.items)) ∙ ap length same ∙ length-map (bundle_numbers n) (late_over n)
      ∙ length-map (range_with_len 0 (length n.bundles)) numbered ∙ length-range_with_len 0 (length n.bundles)

  number_count : length (bundle_numbers n) ≡ length n.bundles
  number_count = length-map (range_with_len 0 (length n.bundles)) numbered ∙ length-range_with_len 0 (length n.bundles)

  -- that of a bundle
  pub list_at : (k : ℕ) (d : Vec Late Global) → k < length n.bundles → (get_or lists k d).items ≡ late_over n (numbered k)
  list_at k d within =
      sym (get_or-map (λ (list : Vec Late Global). list.items) lists k d [] (omega (arith, within, list_count)))
      ∙ ap (λ l. get_or l k []) same
      ∙ get_or-map (late_over n) (bundle_numbers n) k (numbered k) [] (omega (arith, within, number_count))
      ∙ ap (late_over n) (get_or-map-range_with_len numbered 0 (length n.bundles) k k (numbered k) within (zero-add k))

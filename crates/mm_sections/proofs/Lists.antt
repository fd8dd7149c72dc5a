-- Lists of handles, of pages and of sections.
use Rattle.std.proofs.Common.{◌≡◌, ℕ, zero, suc, ◌+◌, ◌<◌, Bool, true, false, cond, not, List, [], ◌∷◌, ◌++◌, map, take, drop, length, replicate, Option, Some, None, refl, sym, ap, ◌∙◌, subst, is_some, is_none, arith}
use Rattle.std.specs.Prelude.{option_map, option_and_then, slice_set, slice_index_or, sum, count_by, find, position, bytes_eq, IfSome, IsSomeAnd}
use Rattle.std.specs.Map.{lookup}
use Rattle.std.specs.HashMap.{HashMap, get}
use Rattle.indexmap.specs.IndexMap.{insert_entry}
use Rattle.indexmap.proofs.CallerLemmas.{insert_entry-new}
use Rattle.std.proofs.lemmas.List.{append_assoc, length-append, length-map, length-take, length-drop, length-replicate, map-set, map-append, set-set, take_at, take-map, drop-map, get_or-set_same, get_or_read}
use Rattle.std.proofs.lemmas.List.Sums.{sum-map}
use Rattle.std.proofs.Math.Seq.{map-set_same}
use Rattle.std.proofs.Math.ListN.{get_or-map as get_or-map_both}
use Rattle.mm_types.specs.{SectionId, Area, Text}
use Rattle.mm_world.specs.{Numbered, numbered, AreaOf, SectionOf, FileOf, change_range, is_named, commit_shared, blank}
use Rattle.mm_sections.specs.{Entry, ReferenceChange, NameKey, CountedSection, DirectoryOf, sections_of, section_in, section_settled, recounted}
use Rattle.mm_sections.specs.{id_of, area_of, section_number, IsNameIndex, counted_section, file_of, found_by, name_key, same_name, name_lost}
use Rattle.mm_sections.specs.{without_name, with_name, page_if}
use Rattle.mm_sections.specs.declared.entries.ReferenceChange.TheVariants as change
use Rattle.mm_sections.proofs.Indexes.{bytes_eq-sym, Loses, loses_nothing, settled_loses, index_after_loss, index_after_one_more, position_is_found}

-- ---- pages

counts : (ys : List Bool) → count_by not ys ≡ count_by is_none (map page_if ys)
counts ys = sym (sum-map (λ b. cond (not b) 1 0) ys) ∙ ap sum (same ys) ∙ sum-map (λ (x : Option (Unit {0})). cond (is_none x) 1 0) (map page_if ys)
  where
    same : (xs : List Bool) → map {B = ℕ} (λ b. cond (not b) 1 0) xs ≡ map {B = ℕ} (λ (x : Option (Unit {0})). cond (is_none x) 1 0) (map page_if xs)
    same [] = refl
    same (true ∷ xs) = ap (λ (l : List ℕ). 0 ∷ l) (same xs)
    same (false ∷ xs) = ap (λ (l : List ℕ). 1 ∷ l) (same xs)

pub uncommitted-map : (first count : ℕ) (xs : List Bool) → count_by not (take count (drop first xs)) ≡ count_by is_none (take count (drop first (map page_if xs)))
uncommitted-map first count xs =
    counts (take count (drop first xs))
    ∙ ap (count_by is_none) (sym (take-map page_if count (drop first xs)) ∙ ap (take count) (sym (drop-map page_if first xs)))

-- each page of a list is committed
all_committed : (ys : List Bool) → map page_if (replicate (length ys) true) ≡ map (λ page. Some (tt {0})) (map page_if ys)
all_committed [] = refl
all_committed (y ∷ ys) = ap (λ (l : List (Option (Unit {0}))). Some (tt {0}) ∷ l) (all_committed ys)

pub committed-map : (first count : ℕ) (xs : List Bool)
    → map page_if (take first xs ++ (replicate (length (take count (drop first xs))) true ++ drop count (drop first xs))) ≡ change_range (λ page. Some (tt {0})) first count (map page_if xs)
committed-map first count xs = simp (append_assoc, take-map page_if, drop-map page_if, map-append page_if, all_committed)

-- a vector that was written as a slice of its own length
pub refilled_whole : (n first k : ℕ) (xs old new : List Bool) → length xs ≡ n → old ≡ xs → new ≡ replicate (length (take k (drop first old))) true
    → (let ws = take first old ++ (new ++ drop k (drop first old)) in take n (ws ++ drop (length ws) xs)) ≡ take first old ++ (new ++ drop k (drop first old))
refilled_whole n first k xs old new e is filled =
    let ws = take first old ++ (new ++ drop k (drop first old)) in
    let long : length ws ≡ length old =
    length-append (take first old) (new ++ drop k (drop first old)) ∙ ap (λ m. length (take first old) + m) (length-append new (drop k (drop first old))) ∙
    omega (arith, length-take first old, ap length filled, length-replicate (length (take k (drop first old))) true, length-take k (drop first old), length-drop first old, length-drop k (drop first old)) in
    let whole : n ≡ length ws = sym e ∙ ap length (sym is) ∙ sym long in
    take_at ws (drop (length ws) xs) n (sym whole)

-- an area with a range of its pages committed
pub committed_area : (block : Option ℕ) (xs new : List Bool) (first count k : ℕ) → k ≡ count → new ≡ replicate (length (take k (drop first xs))) true
    → record { file_block = block; pages = map page_if (take first xs ++ (new ++ drop k (drop first xs))) } ≡ commit_shared blank first count (record { file_block = block; pages = map page_if xs })
committed_area block xs new first count k e is =
    let area : List (Option (Unit {0})) → AreaOf (Unit {0}) = λ pages. record { file_block = block; pages = pages } in
    ap (λ (ys : List Bool). area (map page_if (take first xs ++ (ys ++ drop k (drop first xs))))) is
    ∙ ap area (committed-map first k xs)
    ∙ ap (λ (n : ℕ). area (change_range (λ page. Some (tt {0})) first n (map page_if xs))) e

-- ---- sections

abbrev pub tables : List (Option Entry) → Numbered CountedSection
tables xs = map (option_map counted_section) xs

pub length_tables : (xs : List (Option Entry)) → length (tables xs) ≡ length xs
length_tables xs = length-map xs (option_map counted_section)

pub numbered_within : {A : Type 0} (xs : Numbered A) (n : ℕ) → is_some (numbered xs n) ≡ true → n < length xs
numbered_within [] n h = cc
numbered_within (x ∷ xs) zero h = omega arith
numbered_within (x ∷ xs) (suc n) h = let below = numbered_within xs n h in omega (arith, below)

pub within : (xs : List (Option Entry)) (n : ℕ) → is_some (numbered (tables xs) n) ≡ true → n < length xs
within xs n h = omega (arith, numbered_within (tables xs) n h, length_tables xs)

pub some_of : (o : Option CountedSection) (P : CountedSection → Type 0) → IsSomeAnd o P → is_some o ≡ true
some_of None P h = absurd h
some_of (Some c) P h = refl

-- an entry in a list is changed: what is shown of it is so of what was shown
pub record Changes (xs : List (Option Entry)) (n : ℕ) (old new : Option Entry) (f : Option CountedSection → Option CountedSection) : Type 0 where
  pub inside : n < length xs
  pub was : old ≡ slice_index_or xs n old
  pub is : option_map counted_section new ≡ f (option_map counted_section old)

pub shown_then : (xs : List (Option Entry)) (n : ℕ) (new : Option Entry) → n < length xs → numbered (tables (slice_set xs n new)) n ≡ option_map counted_section new
shown_then xs n new h = get_or-map_both (option_map counted_section) (slice_set xs n new) n None ∙ ap (option_map counted_section) (get_or-set_same xs n new None h)

module _ (xs : List (Option Entry)) (n : ℕ) (old new : Option Entry) (f : Option CountedSection → Option CountedSection) (c : Changes xs n old new f) where
  shown_now : numbered (tables xs) n ≡ option_map counted_section old
  shown_now = get_or-map_both (option_map counted_section) xs n None ∙ ap (option_map counted_section) (sym (get_or_read xs n old c.inside c.was None))

  pub changed_entry : tables (slice_set xs n new) ≡ slice_set (tables xs) n (f (numbered (tables xs) n))
  changed_entry =
      map-set (option_map counted_section) xs n new
      ∙ ap (λ (s : Option CountedSection). slice_set (tables xs) n s) (c.is ∙ ap f (sym shown_now))

  pub changed_directory : (files : List FileOf) (spare : ℕ) (d : DirectoryOf) → record { entries = tables xs; files = files; spare = spare } ≡ d
      → record { entries = tables (slice_set xs n new); files = files; spare = spare } ≡ record d { entries = slice_set d.entries n (f (numbered d.entries n)) }
  changed_directory files spare d is =
      ap (λ (es : Numbered CountedSection). record { entries = es; files = files; spare = spare }) changed_entry
      ∙ ap (λ (v : DirectoryOf). record v { entries = slice_set v.entries n (f (numbered v.entries n)) }) is

-- what is asked of the entry as it is shown holds of the one that a reference into the list holds
pub there : (xs : List (Option Entry)) (n : ℕ) (P : CountedSection → Type 0) (old : Option Entry) (d : DirectoryOf) {files : List FileOf} {spare : ℕ} → old ≡ slice_index_or xs n old
    → record { entries = tables xs; files = files; spare = spare } ≡ d → IsSomeAnd (numbered d.entries n) P → IsSomeAnd (option_map counted_section old) P
there xs n P old d was is asked =
    let shown : IsSomeAnd (numbered (tables xs) n) P = subst (λ (v : DirectoryOf). IsSomeAnd (numbered v.entries n) P) (sym is) asked in
    let inside = within xs n (some_of (numbered (tables xs) n) P shown) in
    subst (λ (o : Option CountedSection). IsSomeAnd o P) (shown_now xs n old old (λ o. o) (record { inside = inside; was = was; is = refl })) shown

-- a change that leaves each section's name leaves the sections
pub sections_kept : (es : Numbered CountedSection) (n : ℕ) (g : CountedSection → CountedSection) → ((c : CountedSection) → section_in (g c) ≡ section_in c) → sections_of (slice_set es n (option_map g (numbered es n))) ≡ sections_of es
sections_kept es n g same = map-set_same (option_map section_in) es n (option_map g (numbered es n)) None (by (numbered es n))
  where
    by : (o : Option CountedSection) → option_map section_in (option_map g o) ≡ option_map section_in o
    by None = refl
    by (Some c) = ap Some (same c)

pub counted_index : (find : Text → Option ℕ) (xs : List (Option Entry)) (n : ℕ) (old new : Option Entry) (g : CountedSection → CountedSection) → ((c : CountedSection) → section_in (g c) ≡ section_in c)
    → Changes xs n old new (option_map g) → IsNameIndex find (sections_of (tables xs)) → IsNameIndex find (sections_of (tables (slice_set xs n new)))
counted_index find xs n old new g same c i =
    subst (λ (ss : Numbered SectionOf). IsNameIndex find ss)
    (sym (ap sections_of (changed_entry xs n old new (option_map g) c) ∙ sections_kept (tables xs) n g same)) i

pub same_section : (change : ReferenceChange) (c : CountedSection) → section_in (recounted change c) ≡ section_in c
same_section change.HandleMore c = refl
same_section change.ViewMore c = refl
same_section change.HandleLess c = refl
same_section change.ViewLess c = refl

-- one less, and then settled
dropped_entries : (es : Numbered CountedSection) (n : ℕ) (g : CountedSection → CountedSection) → is_some (numbered es n) ≡ true
    → slice_set (slice_set es n (option_map g (numbered es n))) n (option_and_then section_settled (numbered (slice_set es n (option_map g (numbered es n))) n)) ≡ slice_set es n (option_and_then (λ c. section_settled (g c)) (numbered es n))
dropped_entries es n g lives =
    set-set es n (option_map g (numbered es n)) _
    ∙ ap (λ (o : Option CountedSection). slice_set es n (option_and_then section_settled o)) (get_or-set_same es n (option_map g (numbered es n)) None (numbered_within es n lives))
    ∙ ap (λ (o : Option CountedSection). slice_set es n o) (by (numbered es n))
  where
    by : (o : Option CountedSection) → option_and_then section_settled (option_map g o) ≡ option_and_then (λ c. section_settled (g c)) o
    by None = refl
    by (Some c) = refl

pub dropped : (old between new : DirectoryOf) (n : ℕ) (g : CountedSection → CountedSection) → is_some (numbered old.entries n) ≡ true
    → between ≡ record old { entries = slice_set old.entries n (option_map g (numbered old.entries n)) } → new ≡ record between { entries = slice_set between.entries n (option_and_then section_settled (numbered between.entries n)) }
    → new ≡ record old { entries = slice_set old.entries n (option_and_then (λ c. section_settled (g c)) (numbered old.entries n)) }
dropped old between new n g lives first then =
    then ∙ ap (λ (d : DirectoryOf). record d { entries = slice_set d.entries n (option_and_then section_settled (numbered d.entries n)) }) first
    ∙ ap (λ (es : Numbered CountedSection). record old { entries = es }) (dropped_entries old.entries n g lives)

pub length_sections : (es : Numbered CountedSection) → length (sections_of es) ≡ length es
length_sections es = length-map es (option_map section_in)

entry_loses : (o : Option CountedSection) → Loses (option_and_then name_lost o) (option_map section_in o) (option_map section_in (option_and_then section_settled o))
entry_loses None = loses_nothing None
entry_loses (Some c) = settled_loses c

module _ (find other : Text → Option ℕ) (xs : List (Option Entry)) (n : ℕ) (old new : Option Entry) (c : Changes xs n old new (option_and_then section_settled)) where
  pub settled_index : (gone : Option Text) → gone ≡ option_and_then name_lost (option_map counted_section old) → ((t : Text) → other t ≡ without_name gone find t)
      → IsNameIndex find (sections_of (tables xs)) → IsNameIndex other (sections_of (tables (slice_set xs n new)))
  settled_index gone lost found i =
      subst (λ (ss : Numbered SectionOf). IsNameIndex other ss)
      (sym (ap sections_of (map-set (option_map counted_section) xs n new) ∙ map-set (option_map section_in) (tables xs) n (option_map counted_section new))) after
    where
      shown : numbered (sections_of (tables xs)) n ≡ option_map section_in (option_map counted_section old)
      shown = get_or-map_both (option_map section_in) (tables xs) n None ∙ ap (option_map section_in) (shown_now xs n old new _ c)

      loses : Loses gone (numbered (sections_of (tables xs)) n) (option_map section_in (option_map counted_section new))
      loses = rw (shown, c.is, lost) (entry_loses (option_map counted_section old))

      after : IsNameIndex other (slice_set (sections_of (tables xs)) n (option_map section_in (option_map counted_section new)))
      after = index_after_loss find other (sections_of (tables xs)) i n _ gone (omega (arith, c.inside, length_sections (tables xs), length_tables xs)) loses found

pub ended_is : (o : Option Entry) (r : Bool) → is_some o ≡ not r → r ≡ is_none (option_map counted_section o)
ended_is None true h = refl
ended_is None false h = cc
ended_is (Some e) true h = cc
ended_is (Some e) false h = refl

pub added_index : (find other : Text → Option ℕ) (xs all : List (Option Entry)) (e : Entry) (number : ℕ) → all ≡ xs ++ Some e ∷ [] → number ≡ length (tables xs)
    → IfSome e.name (λ name. position (is_named name) (sections_of (tables xs)) ≡ None) → ((t : Text) → other t ≡ with_name e.name number find t)
    → IsNameIndex find (sections_of (tables xs)) → IsNameIndex other (sections_of (tables all))
added_index find other xs all e number is at fresh found i =
    let count : number ≡ length (sections_of (tables xs)) = at ∙ sym (length_sections (tables xs)) in
    let after = index_after_one_more find other (sections_of (tables xs)) i (section_in (counted_section e)) fresh (λ t. found t ∙ ap (λ (k : ℕ). with_name e.name k find t) count) in
    subst (λ (ss : Numbered SectionOf). IsNameIndex other ss)
    (sym (ap (λ (ys : List (Option Entry)). sections_of (tables ys)) is ∙ ap sections_of (map-append (option_map counted_section) xs (Some e ∷ [])) ∙ map-append (option_map section_in) (tables xs) (Some (counted_section e) ∷ []))) after

-- the section that is found by a name
pub named_number : {S : Type 0} (names : HashMap NameKey SectionId S) (ss : Numbered SectionOf) (t : Text) → IsNameIndex (found_by names) ss → get same_name names (name_key t) ≡ option_map id_of (position (is_named t) ss)
named_number names ss t i = by (get same_name names (name_key t)) ∙ ap (option_map id_of) (sym (position_is_found (found_by names) ss i t))
  where
    by : (o : Option SectionId) → o ≡ option_map id_of (option_map section_number o)
    by None = refl
    by (Some id) = refl

-- ---- files

pub found_file : (name : Text) (es : List (NameKey × Area)) → option_map area_of (find (λ f. bytes_eq f.name name) (map file_of es)) ≡ lookup (same_name (name_key name)) es
found_file name [] = refl
found_file name (e ∷ es) =
    elim (bytes_eq name e.0.name) as (λ b. bytes_eq e.0.name name ≡ b → option_map area_of (cond (bytes_eq e.0.name name) (Some (file_of e)) (find (λ f. bytes_eq f.name name) (map file_of es))) ≡ cond b (Some e.1) (lookup (same_name (name_key name)) es)) [
      | true ↦ λ same. ap (λ b. option_map area_of (cond b (Some (file_of e)) (find (λ f. bytes_eq f.name name) (map file_of es)))) same
      | false ↦ λ other. ap (λ b. option_map area_of (cond b (Some (file_of e)) (find (λ f. bytes_eq f.name name) (map file_of es)))) other ∙ found_file name es
    ] (bytes_eq-sym e.0.name name)

pub added_file : {S : Type 0} (files after : HashMap NameKey Area S) (key : NameKey) (area : Area) → after.entries ≡ insert_entry same_name files.entries key area
    → find (λ f. bytes_eq f.name key.name) (map file_of files.entries) ≡ None → map file_of after.entries ≡ map file_of files.entries ++ file_of (key, area) ∷ []
added_file files after key area is none =
    let absent : get same_name files key ≡ None = sym (found_file key.name files.entries) ∙ ap (option_map area_of) none in
    ap (map file_of) (is ∙ insert_entry-new same_name files key area absent) ∙ map-append file_of files.entries ((key, area) ∷ [])

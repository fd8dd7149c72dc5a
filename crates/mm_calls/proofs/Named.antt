-- Sections and files by their names, and what the pages of a new file hold.
use Rattle.std.proofs.Common.{◌≡◌, ℕ, ◌++◌, length, true, Option, Some, None, [], ◌∷◌, refl, sym, ◌∙◌, ap, subst, cond, is_some, option_map, not, nat_le, ◌&&◌, ◌+◌, Bool, false, arith, nat_lt, unwrap_or}
use Rattle.std.specs.Prelude.{option_and_then, bytes_eq, Result, Ok, Err, IfOk, ◌==◌, ◌%◌}
use Rattle.std.proofs.lemmas.List.Folds.{find_at}
use Rattle.std.proofs.lemmas.List.Quantifiers.{position-Some}
use Rattle.std.specs.Cmp.{unsigned_Decides}
use Rattle.std.proofs.lemmas.Option.{slice_get_past}
use Rattle.mm_types.specs.{Answer, NoMemory, Area, Key, SectionId, Text}
use Rattle.mm_types.specs.declared.answers.Answer.TheVariants as answer
use Rattle.mm_types.specs.declared.codes.Code.TheVariants as code
use Rattle.mm_types.specs.declared.numbers.Key.TheVariants as key
use Rattle.mm_world.specs.{Page, ProcessOf, SectionOf, FileOf, filled, process_of, section_of, section_named, is_named, area_at, Tables, blank}
use Rattle.mm_world.specs.{BytesAfter, done, within_limit, create, handle_or, next_handle, with_handle, file_named, new_section, paging_area}
use Rattle.mm_world.specs.{section_prot, are_section_flags, largest_section, numbered, no_area, BytesAfterFile, file_bytes}
use Rattle.mm_world.proofs.{at_alive, at_met, each-at, and-true}
use Rattle.mm_store.specs.{StoreOf, with_file}
use Rattle.mm_sections.specs.{id_of, area_of}
use Rattle.mm_object_tables.specs.{FitsTables, Called, Settled, CarriesPages, key_bytes, IsTidy}
use Rattle.mm_calls.proofs.Around.{mapped}

named_lives : (t : Tables) (name : Text) (n : ℕ) → section_named t name ≡ Some n → is_some (section_of t n) ≡ true
named_lives t name n e = by_section (section_of t n) (position-Some (is_named name) t.sections n None e).1
  where
    by_section : (s : Option SectionOf) → is_named name s ≡ true → is_some s ≡ true
    by_section None e = cc
    by_section (Some s) e = refl

-- what was told of a section
told_id : (o : Option ℕ) (id : SectionId) → option_map id_of o ≡ Some id → o ≡ Some id.0
told_id o id e = let m = mapped id_of o id e in m.1.0 ∙ ap (λ (id : SectionId). Some id.0) m.1.1

pub told_lives : (t : Tables) (name : Text) (id : SectionId) → option_map id_of (section_named t name) ≡ Some id → is_some (section_of t id.0) ≡ true
told_lives t name id e = named_lives t name id.0 (told_id (section_named t name) id e)

pub maybe_told : (t : Tables) (name : Option Text) (id : SectionId) → option_map id_of (option_and_then (section_named t) name) ≡ Some id → option_and_then (section_named t) name ≡ Some id.0
maybe_told t name id e = told_id (option_and_then (section_named t) name) id e

pub maybe_lives : (t : Tables) (name : Option Text) (id : SectionId) → option_map id_of (option_and_then (section_named t) name) ≡ Some id → is_some (section_of t id.0) ≡ true
maybe_lives t None id e = cc
maybe_lives t (Some name) id e = told_lives t name id e

-- ---- files

-- the area of a file is a file's
pub file_told : (t : Tables) (name : Text) (area : Area) → IsTidy t → option_map area_of (file_named t name) ≡ Some area → is_some (area_at t area.0).file_block ≡ true
file_told t name area tidy e = by_file (file_named t name) refl e
  where
    by_file : (o : Option FileOf) → file_named t name ≡ o → option_map area_of o ≡ Some area → is_some (area_at t area.0).file_block ≡ true
    by_file None found e = cc
    by_file (Some f) found e =
        let same : area_of f ≡ area = cc in
        subst (λ (a : Area). is_some (area_at t a.0).file_block ≡ true) same
        (each-at (λ (f : FileOf). is_some (area_at t f.area).file_block ≡ true) t.files _ f tidy.file_areas (sym (find_at (λ (f : FileOf). bytes_eq f.name name) t.files) ∙ found))

-- ---- a section that was there

bytes_after : (t after : Tables) (old new : Key → Option Page) (s z : StoreOf) → FitsTables t old s → FitsTables after new z → CarriesPages old new → BytesAfter t (key_bytes old) after (key_bytes new)
bytes_after t after old new s z before fits h k =
    h.at k ∙ (λ i. cond (before.live k i && fits.live k i) (key_bytes old k) (filled 0))

pub created_existing : (t after : Tables) (c : Key → Option Page) (s : StoreOf) (pid size flags number : ℕ) (name : Option Text) (p : ProcessOf (Unit {0})) (r : Result Answer NoMemory) → process_of t pid ≡ Some p → (are_section_flags flags && not (size == 0) && nat_le size largest_section) ≡ true → option_and_then (section_named t) name ≡ Some number → IfOk r (λ a. (p : ProcessOf (Unit {0})) → process_of t pid ≡ Some p → done (answer.Created (next_handle p) true) (with_handle t pid p number) ≡ record { answer = a; world = after }) → FitsTables t c s → Settled after c c s s → IfOk r (λ a. Called (create blank t pid size flags name) t c a after c)
created_existing t after c s pid size flags number name p (Ok a) lives parameters named made f settled =
    record {
      outcome =
          at_alive t pid p _ lives
          ∙ at_met t code.InvalidParameter (are_section_flags flags && not (size == 0) && nat_le size largest_section) _ parameters
          ∙ ap (λ o. handle_or t pid p o (within_limit t (new_section (record t { areas = t.areas ++ paging_area blank flags size ∷ [] }) pid p (record { prot = section_prot flags; name = name; area = length t.areas })))) named ∙ made p lives;
      bytes = bytes_after t after c c s s f settled.fits settled.carries;
    }
created_existing t after c s pid size flags number name p (Err e) lives parameters named made f settled = tt

-- ---- what the pages of a new file hold

abbrev AfterFile : Option Page → Option Page → Page → Type 0
AfterFile o q x = unwrap_or q (filled 0) ≡ cond (is_some o && is_some q) (unwrap_or o (filled 0)) (cond (is_some q) x (filled 0))

at_same : (o : Option Page) (x : Page) → AfterFile o o x
at_same None x = refl
at_same (Some y) x = refl

kept : (o q : Option Page) (x : Page) → q ≡ o → AfterFile o q x
kept o q x e = (λ i. unwrap_or (e i) (filled 0)) ∙ at_same o x ∙ (λ i. let q : Option Page = sym e i in cond (is_some o && is_some q) (unwrap_or o (filled 0)) (cond (is_some q) x (filled 0)))

at_new : (o : Option Page) (x : Page) → is_some o ≡ false → AfterFile o (Some x) x
at_new None x e = refl
at_new (Some y) x e = cc

made : (o q : Option Page) (x : Page) → is_some o ≡ false → q ≡ Some x → AfterFile o q x
made o q x none e = (λ i. unwrap_or (e i) (filled 0)) ∙ at_new o x none ∙ (λ i. let q : Option Page = sym e i in cond (is_some o && is_some q) (unwrap_or o (filled 0)) (cond (is_some q) x (filled 0)))

module _ (t after : Tables) (c d : Key → Option Page) (s z : StoreOf) (pages byte : ℕ) (f : FitsTables t c s) (h : FitsTables after d z) (e : d ≡ with_file (length t.areas) pages byte c) where
  unused : (a : Area) (i : ℕ) → a.0 ≡ length t.areas → is_some (c (key.Shared a i)) ≡ false
  unused a i at = f.live (key.Shared a i) ∙ ap (λ o. is_some (numbered (unwrap_or o no_area).pages i)) (slice_get_past t.areas a.0 (omega (arith, at)))

  by_key : (k : Key) → AfterFile (c k) (d k) (file_bytes byte k)
  by_key (key.Private pid vpn) = kept (c (key.Private pid vpn)) (d (key.Private pid vpn)) (filled 0) (ap (λ (d : Key → Option Page). d (key.Private pid vpn)) e)
  by_key (key.Shared a i) = by_test ((a.0 == length t.areas) && nat_lt i pages) refl
    where
      is : d (key.Shared a i) ≡ cond ((a.0 == length t.areas) && nat_lt i pages) (Some (filled ((byte + i) % 256))) (c (key.Shared a i))
      is = ap (λ (d : Key → Option Page). d (key.Shared a i)) e

      by_test : (b : Bool) → ((a.0 == length t.areas) && nat_lt i pages) ≡ b → AfterFile (c (key.Shared a i)) (d (key.Shared a i)) (filled ((byte + i) % 256))
      by_test true new =
          made (c (key.Shared a i)) (d (key.Shared a i)) (filled ((byte + i) % 256))
          (unused a i ((unsigned_Decides a.0 (length t.areas)).0 (and-true (a.0 == length t.areas) (nat_lt i pages) new).0))
          (is ∙ ap (λ b. cond b (Some (filled ((byte + i) % 256))) (c (key.Shared a i))) new)
      by_test false old =
          kept (c (key.Shared a i)) (d (key.Shared a i)) (filled ((byte + i) % 256)) (is ∙ ap (λ b. cond b (Some (filled ((byte + i) % 256))) (c (key.Shared a i))) old)

  pub with_file_bytes : BytesAfterFile byte t (key_bytes c) after (key_bytes d)
  with_file_bytes k = by_key k ∙ (λ i. cond (f.live k i && h.live k i) (key_bytes c k) (cond (h.live k i) (file_bytes byte k) (filled 0)))

-- What the words show.
use Rattle.std.specs.Prelude.{ℕ, false, [], List, map, length, Option, Some, None, option_map}
use Rattle.std.specs.FinMap as finite
use Rattle.mm_types.specs.{Place}
use Rattle.mm_page_tables.specs.declared.layout.Entry.{Entry}
use Rattle.mm_page_tables.specs.declared.layout.Entry.TheVariants as entry
use Rattle.mm_page_tables.specs.Prototypes.{AreaWords, proto_word}
use Rattle.mm_page_tables.specs.Entries.{entry_or}
use Rattle.mm_page_tables.specs.Words.{WordsOf, bare}
use Rattle.mm_page_tables.specs.declared.aside.Aside.{Aside}
use Rattle.mm_page_tables.specs.declared.processes.Process.{Process}
use Rattle.mm_page_tables.specs.Changes.{resident_of}
use Rattle.mm_page_tables.specs.Tables.{bound_in, at_in, age_of_place, is_open_in}
use Rattle.mm_page_tables.specs.declared.tables.Words.{Words}

abbrev pub bare_aside : Option Aside → Option Aside
bare_aside None = None
bare_aside (Some a) = Some (record { place = a.place; entry = bare a.entry })

abbrev pub proto_in : AreaWords → ℕ → ℕ → Entry
proto_in areas a i = bare (entry_or (proto_word areas a i))

abbrev pub size_in : AreaWords → ℕ → Option ℕ
size_in areas a = option_map length (finite.get areas a)

abbrev pub shown_words : List Process → AreaWords → Option Aside → WordsOf
shown_words ps areas aside = record {
  bound = bound_in ps;
  is_open = is_open_in ps;
  at = at_in ps;
  sizes = size_in areas;
  proto = proto_in areas;
  aside = bare_aside aside;
  sets = map resident_of ps;
}

abbrev pub words : Words → WordsOf
words w = shown_words w.processes.items w.protos w.aside

-- the age of each valid place
abbrev pub place_ages : Words → Place → Option ℕ
place_ages w place = age_of_place w.processes.items place

abbrev pub no_words : WordsOf
no_words = record {
  bound = λ _. false;
  is_open = λ _. false;
  at = λ _. entry.Empty;
  sizes = λ _. None;
  proto = λ _ _. entry.Empty;
  aside = None;
  sets = [];
}

abbrev pub no_ages : Place → Option ℕ
no_ages place = None

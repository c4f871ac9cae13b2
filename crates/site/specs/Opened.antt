-- A site's opening is that of its book.
use Rattle.std.specs.Prelude.{Result, Ok, Err}
use Rattle.book.specs.declared.fault.OpenFault.{OpenFault}
use Rattle.book.specs.OpenBooks.{OpenBook}
use Rattle.site.specs.Sites.{OpenSite}

-- the site's book, or the refusal
abbrev pub book_of : {C : Type 0} → Result (OpenSite C) (C × OpenFault)
    → Result (OpenBook C) (C × OpenFault)
book_of (Ok s) = Ok s.book
book_of (Err e) = Err e

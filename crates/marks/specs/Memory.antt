-- Memory that a call writes to.
use Rattle.std.specs.Prelude.{List, ◌++◌, length, drop}

-- what memory holds once these elements are written into its front: them, and past them what it held
abbrev pub put_in_front : {A : Type 0} → List A → List A → List A
put_in_front new memory = new ++ drop (length new) memory

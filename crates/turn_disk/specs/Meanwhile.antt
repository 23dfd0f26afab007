-- What is done while a disk waits.

-- pieces of work that are done one after another, each as passes says
pub data Passes {M : Type 0} (passes : M → M → Type 0) : M → M → Type 0 where
  none : {m : M} → Passes passes m m
  more : {old mid new : M} → passes old mid → Passes passes mid new → Passes passes old new

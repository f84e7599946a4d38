use Rattle.std.proofs.Common.{refl}
use Rattle.wast_binary.proofs.NotedFields.{notes}
use Rattle.wast_binary.proofs.present.Present.note.Goals as goal

pub returns-in-TypeItem : goal.returns-in-TypeItem
returns-in-TypeItem c = notes c.args.self.now _ c.args.field.now _ c.in-TypeItem.is refl

pub returns-in-Rec : goal.returns-in-Rec
returns-in-Rec c = notes c.args.self.now _ c.args.field.now _ c.in-Rec.is refl

pub returns-in-Import : goal.returns-in-Import
returns-in-Import c = notes c.args.self.now _ c.args.field.now _ c.in-Import.is refl

pub returns-in-Func : goal.returns-in-Func
returns-in-Func c = notes c.args.self.now _ c.args.field.now _ c.in-Func.is refl

pub returns-in-Table : goal.returns-in-Table
returns-in-Table c = notes c.args.self.now _ c.args.field.now _ c.in-Table.is refl

pub returns-in-Memory : goal.returns-in-Memory
returns-in-Memory c = notes c.args.self.now _ c.args.field.now _ c.in-Memory.is refl

pub returns-in-Tag : goal.returns-in-Tag
returns-in-Tag c = notes c.args.self.now _ c.args.field.now _ c.in-Tag.is refl

pub returns-in-Global : goal.returns-in-Global
returns-in-Global c = notes c.args.self.now _ c.args.field.now _ c.in-Global.is refl

pub returns-in-Export : goal.returns-in-Export
returns-in-Export c = notes c.args.self.now _ c.args.field.now _ c.in-Export.is refl

pub returns-in-Start : goal.returns-in-Start
returns-in-Start c = notes c.args.self.now _ c.args.field.now _ c.in-Start.is refl

pub returns-in-Elem : goal.returns-in-Elem
returns-in-Elem c = notes c.args.self.now _ c.args.field.now _ c.in-Elem.is refl

pub returns-in-Data : goal.returns-in-Data
returns-in-Data c = notes c.args.self.now _ c.args.field.now _ c.in-Data.is refl

pub returns-in-Custom : goal.returns-in-Custom
returns-in-Custom c = notes c.args.self.now _ c.args.field.now _ c.in-Custom.is refl

-- What takes long to compute of the layers' definitions. It stands beside a program, which has no must-fail edits: each edit of a layer proves the layer again.
mod BoundsMet
